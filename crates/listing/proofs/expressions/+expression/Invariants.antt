use Rattle.std.proofs.Common.{◌+◌, ◌*◌}
use Rattle.listing.proofs.expressions.+expression.Given as goal

abbrev pub decreases-show : goal.decreases-show
decreases-show g l = 2 * l.n

abbrev pub decreases-show_part : goal.decreases-show_part
decreases-show_part g l = 2 * l.n + 1
