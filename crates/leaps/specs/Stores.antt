-- The stores of a graph, and an actor's moves at them. Assumes nothing.
--
-- store_at     a store by its number, nobody's past the last
-- owner_is     the store has an owner, one of the sixteen, who is so
-- is_of        it is the actor's
-- rate_of      the actor's rate at a store, 0 at one that is not its own
-- move_at      the move at a store of its owner's firing
-- moves_below  the actor's moves at the first so many stores
-- moves_of     those at all
-- moves_in     the moves that stand in a list
-- list_at      those in the list of an actor, none past the last
-- moved        what a move moves at a store
use Rattle.std.specs.Prelude.{ℕ, zero, suc, ◌==◌, Bool, false, if◌then◌else◌, ◌&&◌, nat_lt, None, List, [], ◌∷◌, ◌++◌, length, take, slice_index_or, slice_get}
use Rattle.std.specs.Option.{option_map_or}
use Rattle.model.specs.Net.{when}
use Rattle.leaps.specs.declared.store.Store.{Store}
use Rattle.leaps.specs.declared.list.Move.{Move}
use Rattle.leaps.specs.declared.list.MoveList.{MoveList}

abbrev pub store_at : List Store → ℕ → Store
store_at ss e = slice_index_or ss e (record { owner = None; rate = 0 })

abbrev pub owner_is : Store → (ℕ → Bool) → Bool
owner_is s p = option_map_or (λ a. nat_lt a 16 && p a) s.owner false

abbrev pub is_of : ℕ → Store → Bool
is_of a s = owner_is s (λ b. b == a)

abbrev pub rate_of : List Store → ℕ → ℕ → ℕ
rate_of ss a e = when (is_of a (store_at ss e)) (store_at ss e).rate

abbrev pub move_at : List Store → ℕ → Move
move_at ss e = record { store = e; rate = (store_at ss e).rate }

abbrev pub moves_below : ℕ → List Store → ℕ → List Move
moves_below zero ss a = []
moves_below (suc e) ss a = if is_of a (store_at ss e) then moves_below e ss a ++ move_at ss e ∷ [] else moves_below e ss a

abbrev pub moves_of : List Store → ℕ → List Move
moves_of ss a = moves_below (length ss) ss a

abbrev pub moves_in : MoveList → List Move
moves_in l = take l.len l.moves

abbrev pub list_at : List MoveList → ℕ → List Move
list_at ls a = option_map_or moves_in (slice_get ls a) []

abbrev pub moved : ℕ → Move → ℕ
moved e m = when (m.store == e) m.rate
