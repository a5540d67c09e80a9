use Rattle.std.proofs.Common.{◌<◌, ◌≤◌, sym, ap, ◌∙◌, subst}
use Rattle.records.specs.Trees.{variable_of}
use Rattle.records.proofs.Designs.{var_at, var_past, inside_at, inside_past}
use Rattle.records.proofs.file.DesignFile.get_variable.Goals as goal

pub returns-then-v-count : goal.returns-then-v-count
returns-then-v-count c =
    let lt = subst (λ n. c.args.v < n) c.count.ensures.is c.if-v-count.true in
    record {
      is = var_at c.args.self.now c.args.v lt ∙ ap variable_of (sym c.variable.ensures);
      inside = sym (inside_at c.args.self.now c.args.v lt);
      found = c.variable.ensures;
    }

pub returns-else-v-count : goal.returns-else-v-count
returns-else-v-count c =
    let ge = subst (λ n. n ≤ c.args.v) c.count.ensures.is c.if-v-count.false in
    record {
      is = var_past c.args.self.now c.args.v ge;
      inside = sym (inside_past c.args.self.now c.args.v ge);
      found = ge;
    }
