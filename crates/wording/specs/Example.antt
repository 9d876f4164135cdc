-- The lines of docs/DECISIONS.md.
use Rattle.std.specs.Prelude.{◌≡◌, refl, [], ◌∷◌, map}
use Rattle.rules.specs.declared.Axis.TheVariants.{X, Z}
use Rattle.rules.specs.declared.Side.TheVariants.{Below, Above}
use Rattle.rules.specs.declared.Ruling.TheVariants.{Refused}
use Rattle.rules.specs.WhyExamples.{named}
use Rattle.text.specs.Text.{ascii, digits, decimal, field}
use Rattle.wording.specs.Line.{span, two, percent, share, spans, shares, head, three, level_text, index_text, box, ruled_out, numbered, refused, why_text}

pub example_lines :
    map why_text
    (named 3 3 0 0 2 0 0 Z Above
    ∷ named 2 0 1 1 0 1 0 X Below
    ∷ Refused 23
    ∷ Refused 24
    ∷ Refused 5
    ∷ Refused 7
    ∷ Refused 13
    ∷ Refused 15
    ∷ [])
    ≡ map ascii
    ("RULED OUT on z, first body on the + side: t 262144 to 393216, u 0 to 1048576, v 0 to 1048576 (25.00 % to 37.50 %, 0.00 % to 100.00 %, 0.00 % to 100.00 %); level 3, depths 3 0 0, box 2 0 0\n"
    ∷ "RULED OUT on x, first body on the - side: t 0 to 1048576, u 524288 to 1048576, v 0 to 524288 (0.00 % to 100.00 %, 50.00 % to 100.00 %, 0.00 % to 50.00 %); level 2, depths 0 1 1, box 0 1 0\n"
    ∷ "REFUSED 23 not in the domain (t, u and v are at most 1048576, and for a face so is u + v), or t is beyond the cap\n"
    ∷ "REFUSED 24 not ruled out: the search answers this moment or an earlier one\n"
    ∷ "REFUSED 5\n"
    ∷ "REFUSED 7\n"
    ∷ "FILE 13\n"
    ∷ "FILE 15\n"
    ∷ [])
unfolding digits decimal field span two percent share spans shares head three level_text index_text box ruled_out numbered refused
example_lines = refl
