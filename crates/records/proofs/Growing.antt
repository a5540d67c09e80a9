-- The tree of a record, from the trees of its parts.
use Rattle.std.proofs.Common.{◌≡◌, ℕ, ◌<◌, ◌≤◌, cond, sym, refl, ap}
use Rattle.std.proofs.lemmas.Bool.{lt-ltb, le-ltb}
use Rattle.language.specs.Syntax.{Expr, Cmd, idle, constant}
use Rattle.records.specs.declared.nodes.Action.{Action}
use Rattle.records.specs.declared.nodes.Action.TheVariants.{Idle, Both, Choose, Assign}
use Rattle.records.specs.declared.nodes.Node.{Node}
use Rattle.records.specs.declared.nodes.Node.TheVariants as node
use Rattle.refusal.specs.declared.Section.TheVariants.{Commands, Expressions}
use Rattle.records.specs.Layouts.{File, limit_of}
use Rattle.records.specs.Cells.{command_at, expression_at}
use Rattle.records.specs.Nodes.{action_of, nil_node, node_of, action_at, node_at, LowerParts, LowerOperands}
use Rattle.records.specs.Trees.{grow_expr, grow_cmd, expr_at, cmd_at}
use Rattle.records.proofs.Building.{built_is}

same_node : (n : Node) (e : ℕ) (f g : ℕ → Expr) → ((k : ℕ) → k < e → f k ≡ g k) → LowerOperands n e → grow_expr n f ≡ grow_expr n g
same_node (node.Constant w a) e f g h l = refl
same_node (node.Variable w v k) e f g h l = refl
same_node (node.Not w a) e f g h l = rw (h a l) refl
same_node (node.Pair w o a b) e f g h l = rw (h a l.0, h b l.1) refl
same_node (node.ShiftLeft w a b) e f g h l = rw (h a l) refl
same_node (node.ShiftRight w a b) e f g h l = rw (h a l) refl
same_node (node.Part w a b) e f g h l = rw (h a l) refl
same_node (node.Above w a b) e f g h l = rw (h a l.0, h b l.1) refl
same_node (node.Choose w a b c) e f g h l = rw (h a l.0, h b l.1, h c l.2) refl

same_action : (es : ℕ → Expr) (n : Action) (e : ℕ) (f g : ℕ → Cmd) → ((k : ℕ) → k < e → f k ≡ g k) → LowerParts n e → grow_cmd es n f ≡ grow_cmd es n g
same_action es Idle e f g h l = refl
same_action es (Both a b) e f g h l = rw (h a l.0, h b l.1) refl
same_action es (Choose x a b) e f g h l = rw (h a l.0, h b l.1) refl
same_action es (Assign v x k) e f g h l = refl

pub expr_is : (f : File) (n : ℕ) (r : Node) → r ≡ node_at f n → LowerOperands r n → expr_at f n ≡ grow_expr r (expr_at f)
expr_is f n r is low = built_is (node_at f) grow_expr (constant 0 0) LowerOperands same_node n r is low

pub cmd_is : (f : File) (n : ℕ) (r : Action) → r ≡ action_at f n → LowerParts r n → cmd_at f n ≡ grow_cmd (expr_at f) r (cmd_at f)
cmd_is f n r is low = built_is (action_at f) (grow_cmd (expr_at f)) idle LowerParts (same_action (expr_at f)) n r is low

-- below the limit of its section, and from there on

pub action_low : (f : File) (n : ℕ) → n < limit_of Commands → action_of (command_at f n) n ≡ action_at f n
action_low f n h = sym (ap (λ t. cond t (action_of (command_at f n) n) Idle) (lt-ltb n (limit_of Commands) h))

pub action_past : (f : File) (n : ℕ) → limit_of Commands ≤ n → Idle ≡ action_at f n
action_past f n h = sym (ap (λ t. cond t (action_of (command_at f n) n) Idle) (le-ltb n (limit_of Commands) h))

pub node_low : (f : File) (n : ℕ) → n < limit_of Expressions → node_of (expression_at f n) n ≡ node_at f n
node_low f n h = sym (ap (λ t. cond t (node_of (expression_at f n) n) nil_node) (lt-ltb n (limit_of Expressions) h))

pub node_past : (f : File) (n : ℕ) → limit_of Expressions ≤ n → nil_node ≡ node_at f n
node_past f n h = sym (ap (λ t. cond t (node_of (expression_at f n) n) nil_node) (le-ltb n (limit_of Expressions) h))
