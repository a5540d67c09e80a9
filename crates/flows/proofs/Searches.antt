-- What a search found, told otherwise.
use Rattle.std.proofs.Common.{Some, None, Option, MatchOption}

pub told : {X A B : Type 0} {P Q : X → Type 0} (o : Option X) → MatchOption o A P → (A → B) → ((x : X) → P x → Q x) → MatchOption o B Q
told None h a p = a h
told (Some x) h a p = p x h
