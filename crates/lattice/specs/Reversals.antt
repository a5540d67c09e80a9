-- A lattice turned round keeps the laws.
use Rattle.std.proofs.Common.{ℕ}
use Rattle.lattice.specs.Meaning.{Meaning, Ordered, Laws, LeastAbove, GreatestBelow, Lowest, Highest}
use Rattle.lattice.specs.Kinds.{reversed}

module _ {m : Meaning} where
  pub reversed_order : Ordered m → Ordered (reversed m)
  reversed_order o = record {
    some = o.some;
    most = o.most;
    levels = λ a b h. ((o.levels b a h).1, (o.levels b a h).0);
    reflexive = o.reflexive;
    antisymmetric = λ a b h k. o.antisymmetric a b k h;
    transitive = λ a b c h k. o.transitive c b a k h;
  }

  pub turned_meet : (a b r : ℕ) → GreatestBelow m a b r → LeastAbove (reversed m) a b r
  turned_meet a b r g = record { left = g.left; right = g.right; least = g.greatest }

  pub turned_join : (a b r : ℕ) → LeastAbove m a b r → GreatestBelow (reversed m) a b r
  turned_join a b r l = record { left = l.left; right = l.right; greatest = l.least }

  pub turned_highest : (r : ℕ) → Highest m r → Lowest (reversed m) r
  turned_highest r h = record { level = h.level; under = h.over }

  pub turned_lowest : (r : ℕ) → Lowest m r → Highest (reversed m) r
  turned_lowest r l = record { level = l.level; over = l.under }

  pub reversed_laws : Laws m → Laws (reversed m)
  reversed_laws laws = record {
    order = reversed_order laws.order;
    joins = λ a b h k. let g = laws.meets a b h k in (g.0, turned_meet a b g.0 g.1);
    meets = λ a b h k. let l = laws.joins a b h k in (l.0, turned_join a b l.0 l.1);
    lowest = (laws.highest.0, turned_highest laws.highest.0 laws.highest.1);
    highest = (laws.lowest.0, turned_lowest laws.lowest.0 laws.lowest.1);
  }
