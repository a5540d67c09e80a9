use Rattle.std.proofs.Common.{arith, rules}
use Rattle.survey.specs.Uses.{top_use, part_use, value_use, operand_use}
use Rattle.survey.proofs.Counting.{tallies_same, tallies_zero}
use Rattle.survey.proofs.uses.uses_of.Goals as goal

pub returns : goal.returns
returns c =
    let f = c.args.file.now in
    let tops = c.add_each.ensures (top_use f) (λ k p q met. search rules) in
    let parts = c.add_each-2.ensures (part_use f) (λ k p q met. search rules) in
    let values = c.add_each-3.ensures (value_use f) (λ k p q met. search rules) in
    let operands = c.add_each-4.ensures (operand_use f) (λ k p q met. search rules) in
    record {
      commands = tallies_same _ _ _ (λ k. omega arith) (parts _ (tops (λ k. 0) (tallies_zero 512)));
      expressions = tallies_same _ _ _ (λ k. omega arith) (operands _ (values (λ k. 0) (tallies_zero 1024)));
    }
