-- A field: tag, length in two bytes, value; how it is written and how it is read. Assumes nothing.
--
--   tag_of, size_of    the tag and the length that each kind of field has
--   kind_of, bytes_of  the kind of a field, and the bytes that it borrows
--   framed, written    a value behind its tag and length, and so a whole field
--   field_of           the field at the front of some bytes, with its checks in order
--   ReadIs, EndIs      the answers of `read` and `end`
--   ValueIs            the answer of the search for a value
use Rattle.std.specs.Prelude.{◌≡◌, ℕ, ◌+◌, ◌*◌, ◌<◌, List, ◌∷◌, ◌++◌, length, take, drop, Some, None, Ok, Err, Option, Result, ◌==◌, nat_le, slice_index}
use Rattle.std.specs.Borrow.{Bor}
use Rattle.fields.specs.Checks.{check}
use Rattle.fields.specs.declared.field.Kind.{Kind}
use Rattle.fields.specs.declared.field.Kind.TheVariants as kind
use Rattle.fields.specs.declared.field.Field.{Field}
use Rattle.fields.specs.declared.field.Field.TheVariants as field
use Rattle.fields.specs.declared.fault.Fault.{Fault}
use Rattle.fields.specs.declared.fault.Fault.TheVariants.{Ends, Tag, Length, More}

abbrev pub tag_of : Kind → ℕ
tag_of kind.Head = 1
tag_of kind.Actor = 2
tag_of kind.Channel = 3

abbrev pub size_of : Kind → ℕ
size_of kind.Head = 2
size_of kind.Actor = 10
size_of kind.Channel = 8

abbrev pub kind_of : Field → Kind
kind_of (field.Head v) = kind.Head
kind_of (field.Actor v) = kind.Actor
kind_of (field.Channel v) = kind.Channel

abbrev pub bytes_of : Field → List ℕ
bytes_of (field.Head v) = v.now
bytes_of (field.Actor v) = v.now
bytes_of (field.Channel v) = v.now

abbrev pub framed : Kind → List ℕ → List ℕ
framed k v = tag_of k ∷ 0 ∷ size_of k ∷ v

abbrev pub written : Field → List ℕ
written f = framed (kind_of f) (bytes_of f)

-- field `n`, of kind `k`, at the front of `xs`: its value and the bytes after it
abbrev pub field_of : List ℕ → Kind → ℕ → Result (List ℕ × List ℕ) Fault
field_of xs k n =
    check (nat_le 3 (length xs)) (Ends n)
    (check (slice_index xs 0 == tag_of k) (Tag n)
    (check (slice_index xs 1 * 256 + slice_index xs 2 == size_of k) (Length n)
    (check (nat_le (3 + size_of k) (length xs)) (Ends n) (Ok (take (size_of k) (drop 3 xs), drop (3 + size_of k) xs)))))

-- the field that the bytes begin with, as written, and the bytes after it; or the refusal
abbrev pub ReadIs : List ℕ → Kind → ℕ → Result (Field × Bor (List ℕ)) Fault → Type 0
ReadIs xs k n (Ok r) = (kind_of r.0 ≡ k) × (length (bytes_of r.0) ≡ size_of k) × (xs ≡ framed k (bytes_of r.0 ++ r.1.now))
ReadIs xs k n (Err e) = field_of xs k n ≡ Err e

-- nothing follows, or field `n` would
abbrev pub EndIs : List ℕ → ℕ → Result (Unit {0}) Fault → Type 0
EndIs xs n (Ok u) = length xs ≡ 0
EndIs xs n (Err e) = (0 < length xs) × (e ≡ More n)

-- the value of kind `k` that `xs` begins with, and the bytes after it; or none where `xs` is too short
abbrev pub ValueIs : Kind → List ℕ → Option (Field × Bor (List ℕ)) → Type 0
ValueIs k xs None = length xs < size_of k
ValueIs k xs (Some r) = (kind_of r.0 ≡ k) × (length (bytes_of r.0) ≡ size_of k) × (xs ≡ bytes_of r.0 ++ r.1.now)
