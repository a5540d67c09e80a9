use Rattle.std.proofs.Common.{rules, ℕ, arith}
use Rattle.std.proofs.lemmas.Iterator.{first_from_Range}
use Rattle.lattice.specs.Meaning.{Below}
use Rattle.language.specs.Finite.{Tries, One, level_at}
use Rattle.paths.specs.Marks.{place_of}
use Rattle.flows.specs.Findings.{Clash}
use Rattle.flows.proofs.Searches.{told}
use Rattle.flows.proofs.tester.Tester.clash_at.Goals as goal

pub returns : goal.returns
returns g c d sets here there =
    let m = g.L.Lattice.meaning c.args.self.now.lattice.now in
    let p = place_of c.args.p.now.origin in
    let q = place_of c.args.q.now.origin in
    let x = c.args.x in
    let Fine : ℕ → Type 0 = λ y. Tries d sets q y → One p q x y → Below m (level_at d p x) (level_at d q y) in
    let first = first_from_Range _ _ _ _ (Clash m d sets p q x) (λ y. Tries d sets p x → Fine y) c.find.ensures.ran (λ y f h. search rules) (λ y f h. search rules) in
    told c.find.result first (λ fine y a b. fine y (omega arith) (there.few y b) a b) (λ y found. found.2)
