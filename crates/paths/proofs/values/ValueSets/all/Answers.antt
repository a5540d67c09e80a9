use Rattle.std.proofs.Common.{true, false, [], get_or, replicate, ap, ◌∙◌}
use Rattle.std.proofs.lemmas.List.{get_or-replicate}
use Rattle.paths.proofs.values.ValueSets.all.Goals as goal

pub returns : goal.returns
returns c = λ v x h k. ap (λ xs. get_or xs x false) (get_or-replicate 128 v (replicate 16 true) [] h) ∙ get_or-replicate 16 x true false k
