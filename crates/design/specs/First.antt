-- Which refusal a design file gets: of the layout first, then of the records by the smaller number, the earlier section, the earlier record.
use Rattle.std.specs.Prelude.{ℕ, List, Ok, Err, Result}
use Rattle.refusal.specs.declared.Refusal.{Refusal}
use Rattle.records.specs.declared.layout.Layout.{Layout}
use Rattle.records.specs.Layouts.{File, after, layout_of}
use Rattle.rules.specs.First.{form_refusal, checked}

-- the file of some bytes under a layout
abbrev pub under : List ℕ → Layout → File
under f l = record { bytes = f; layout = l }

abbrev pub form_of : List ℕ → Result Layout Refusal → Result Layout Refusal
form_of f (Ok l) = after (checked (form_refusal (under f l))) (Ok l)
form_of f (Err r) = Err r

-- what reading a design answers: its layout, or the refusal
abbrev pub read_of : List ℕ → Result Layout Refusal
read_of f = form_of f (layout_of f)
