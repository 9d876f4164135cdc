-- The measure is `left`.
use Rattle.descent.proofs.+go_down.Given as goal

abbrev pub decreases-go_down : goal.decreases-go_down
decreases-go_down l = l.left
