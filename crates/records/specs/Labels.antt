-- Variables and their labels, as the code names them.
use Rattle.std.specs.Prelude.{Some, None, Option}
use Rattle.language.specs.Syntax as tree
use Rattle.language.specs.Syntax.{fixed, looked_up, nothing}
use Rattle.records.specs.Trees.{variable_of}
use Rattle.records.specs.declared.cells.Variable.{Variable}
use Rattle.records.specs.declared.labels.Label.{Label}
use Rattle.records.specs.declared.labels.Label.TheVariants.{Fixed, LookedUp}

abbrev pub label_of : Label → tree.Label
label_of (Fixed l) = fixed l
label_of (LookedUp t s) = looked_up t s

-- a variable that the design lacks counts as one of no width
abbrev pub variable_shown : Option Variable → tree.Variable
variable_shown None = nothing
variable_shown (Some x) = variable_of x
