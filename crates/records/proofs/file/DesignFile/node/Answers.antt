use Rattle.std.proofs.Common.{◌≡◌, ◌<◌, ◌≤◌, ap, ◌∙◌, subst}
use Rattle.records.specs.Nodes.{nil_node, node_of, node_at}
use Rattle.records.proofs.Growing.{expr_is, node_low, node_past}
use Rattle.records.proofs.file.DesignFile.node.Goals as goal

pub returns-then-n-limit_of-clause-tree : goal.returns-then-n-limit_of-clause-tree
returns-then-n-limit_of-clause-tree c =
    expr_is c.args.self.now c.args.n nil_node (node_past c.args.self.now c.args.n (subst (λ m. m ≤ c.args.n) c.limit_of.ensures c.if-n-limit_of.true)) tt

pub returns-clause-tree : goal.returns-clause-tree
returns-clause-tree c =
    let is : c.node_of.result ≡ node_at c.args.self.now c.args.n =
    c.node_of.ensures.is ∙ ap (λ x. node_of x c.args.n) c.expression.ensures ∙ node_low c.args.self.now c.args.n (subst (λ m. c.args.n < m) c.limit_of.ensures c.if-n-limit_of.false) in
    expr_is c.args.self.now c.args.n c.node_of.result is c.node_of.ensures.lower
