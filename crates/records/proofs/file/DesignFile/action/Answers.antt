use Rattle.std.proofs.Common.{◌≡◌, ◌<◌, ◌≤◌, ap, ◌∙◌, subst}
use Rattle.records.specs.declared.nodes.Action.TheVariants.{Idle}
use Rattle.records.specs.Nodes.{action_of, action_at}
use Rattle.records.proofs.Growing.{cmd_is, action_low, action_past}
use Rattle.records.proofs.file.DesignFile.action.Goals as goal

pub returns-then-n-limit_of-clause-tree : goal.returns-then-n-limit_of-clause-tree
returns-then-n-limit_of-clause-tree c =
    cmd_is c.args.self.now c.args.n Idle (action_past c.args.self.now c.args.n (subst (λ m. m ≤ c.args.n) c.limit_of.ensures c.if-n-limit_of.true)) tt

pub returns-clause-tree : goal.returns-clause-tree
returns-clause-tree c =
    let is : c.action_of.result ≡ action_at c.args.self.now c.args.n =
    c.action_of.ensures.is ∙ ap (λ x. action_of x c.args.n) c.command.ensures ∙ action_low c.args.self.now c.args.n (subst (λ m. c.args.n < m) c.limit_of.ensures c.if-n-limit_of.false) in
    cmd_is c.args.self.now c.args.n c.action_of.result is c.action_of.ensures.lower
