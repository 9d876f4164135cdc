-- Document 01, "What comes back": this paper's number and values for each case of an answer.
use Rattle.std.specs.Prelude.{ℕ, Bool, ◌||◌, List, length, replicate, eqb}
use Rattle.rules.specs.declared.Answer.{Answer}
use Rattle.rules.specs.declared.Answer.TheVariants.{Met, Clear, Spent, Room, Floor, Refused}
use Rattle.rules.specs.declared.Told.{Told}

-- "MET, SPENT, ROOM, FLOOR carry t, u, v, excess, count; CLEAR carries count only. A refusal carries its number."
-- The words are 0 refused, 1 MET, 2 CLEAR, 3 SPENT, 4 ROOM, 5 FLOOR (document 02, R-1); what an answer does not carry is 0.
abbrev pub told : Answer → Told
told (Met t u v excess count) = record { word = 1; t = t; u = u; v = v; excess = excess; count = count; number = 0 }
told (Clear count) = record { word = 2; t = 0; u = 0; v = 0; excess = 0; count = count; number = 0 }
told (Spent t u v excess count) = record { word = 3; t = t; u = u; v = v; excess = excess; count = count; number = 0 }
told (Room t u v excess count) = record { word = 4; t = t; u = u; v = v; excess = excess; count = count; number = 0 }
told (Floor t u v excess count) = record { word = 5; t = t; u = u; v = v; excess = excess; count = count; number = 0 }
told (Refused number) = record { word = 0; t = 0; u = 0; v = 0; excess = 0; count = 0; number = number }

-- MET, SPENT, ROOM and FLOOR (words 1, 3, 4, 5) answer a moment
abbrev pub has_moment : Told → Bool
has_moment a = eqb a.word 1 || eqb a.word 3 || eqb a.word 4 || eqb a.word 5

-- "After any answer every queue word is zero." "A refused search changes no word."
unfoldable pub queue_after : Answer → List ℕ → List ℕ
queue_after (Met t u v excess count) queue = replicate (length queue) 0
queue_after (Clear count) queue = replicate (length queue) 0
queue_after (Spent t u v excess count) queue = replicate (length queue) 0
queue_after (Room t u v excess count) queue = replicate (length queue) 0
queue_after (Floor t u v excess count) queue = replicate (length queue) 0
queue_after (Refused number) queue = queue
