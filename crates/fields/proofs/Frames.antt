-- A field that is written is read.
use Rattle.std.proofs.Common.{◌≡◌, ℕ, List, ◌++◌, length, Ok, arith, length-append}
use Rattle.std.proofs.lemmas.List.{take_at, drop_at}
use Rattle.std.proofs.lemmas.Bool.Decides.{nat_tests}
use Rattle.fields.specs.declared.field.Kind.{Kind}
use Rattle.fields.specs.declared.field.Kind.TheVariants as kind
use Rattle.fields.specs.Field.{size_of, framed, field_of}

-- what is written is read
pub reads : (k : Kind) (n : ℕ) (v rest : List ℕ) → length v ≡ size_of k → field_of (framed k (v ++ rest)) k n ≡ Ok (v, rest)
reads kind.Head n v rest e = let l = length-append v rest in rw (take_at v rest 2 e, drop_at v rest 2 e) (grind (arith, nat_tests))
reads kind.Actor n v rest e = let l = length-append v rest in rw (take_at v rest 10 e, drop_at v rest 10 e) (grind (arith, nat_tests))
reads kind.Channel n v rest e = let l = length-append v rest in rw (take_at v rest 8 e, drop_at v rest 8 e) (grind (arith, nat_tests))
