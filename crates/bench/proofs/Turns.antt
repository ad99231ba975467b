-- Whatever a ring shares goes as on paper. Assumes nothing.
use Rattle.std.proofs.Common.{◌≡◌, ℕ, zero, suc, ◌<◌, ◌≤◌, Bool, true, false, cond, ◌&&◌, eqb, ltb, List, [], ◌∷◌, length, get_or, Some, None, Option, sym, refl, ap, ◌∙◌, subst, ap₂, inl, inr, arith}
use Rattle.std.proofs.lemmas.Bool.{cases_eq}
use Rattle.std.proofs.lemmas.Bool.Decides.{nat_tests}
use Rattle.policy.specs.Meaning.{layable}
use Rattle.policy.specs.Works.{works_of, lefts_of}
use Rattle.policy.specs.Turns.{next, RingMoves}
use Rattle.policy.specs.declared.ring.Ring.{Ring}
use Rattle.policy.specs.contracts.ring.RingPolicy.TheImpl.{ghosts}
use Rattle.model.specs.Net.{Sound, State, when, ready, finish, initial_state}
use Rattle.model.specs.Likeness.{Matches}
use Rattle.model.proofs.Ready.{ready_true}
use Rattle.model.proofs.Alikes.{matches_trans, ready_alike, finish_alike, tick_matches}
use Rattle.runs.specs.Seen.{taken}
use Rattle.bench.specs.Sharing.{Stand, Asked, Lays, Begins, Ticks}
use Rattle.bench.specs.Worked.{graph, works, Turning, less, laid, goes, first, moved, onward, shared, NewRing, OnlyRun}
use Rattle.bench.proofs.Sharings.{lays_same}
use Rattle.bench.proofs.Shared.{taken_is, at_rest}

sound : Sound graph
sound = record { source_in = λ c hc. omega arith; dest_in = λ c hc. omega arith; p_pos = λ c hc. omega arith; q_pos = λ c hc. omega arith; fits = λ c hc. omega arith }

-- what a ring holds: lefts f, and the turn of t, which goes on or not
record Holds (p : Ring) (f : ℕ → ℕ) (t : ℕ) (b : Bool) : Type 0 where
  count : length p.rows.list.items ≡ 2
  work : (a : ℕ) → a < 2 → get_or (works_of p.rows.list.items) a 0 ≡ works a
  left : (a : ℕ) → a < 2 → get_or (lefts_of p.rows.list.items) a 0 ≡ f a
  turn : p.turn ≡ t
  busy : p.busy ≡ b

-- who is next depends on two lefts
next_at : (l : List ℕ) (x y t : ℕ) (b : Bool) → get_or l 0 0 ≡ x → get_or l 1 0 ≡ y → t < 2 → next 2 l t b ≡ next 2 (x ∷ y ∷ []) t b
next_at l x y zero b e f lt = rw (e, f)
next_at l x y (suc zero) b e f lt = rw (e, f)
next_at l x y (suc (suc t)) b e f lt = absurd (omega arith)

next_from : (l : List ℕ) (n t t' : ℕ) (b b' : Bool) → n ≡ 2 → t ≡ t' → b ≡ b' → next n l t b ≡ next 2 l t' b'
next_from l n t t' b b' e f g = rw (e, f, g)

-- and is one of two
abbrev Among : Option ℕ → Type 0
Among None = Unit
Among (Some x) = x < 2

among_cond : (b : Bool) (x : ℕ) (o : Option ℕ) → x < 2 → Among o → Among (cond b (Some x) o)
among_cond true x o lt h = lt
among_cond false x o lt h = h

next_among : (l : List ℕ) (t : ℕ) (b : Bool) → t < 2 → Among (next 2 l t b)
next_among l zero b lt = among_cond b 0 _ (omega arith) (among_cond (ltb 0 (get_or l 1 0)) 1 _ (omega arith) (among_cond (ltb 0 (get_or l 0 0)) 0 None (omega arith) tt))
next_among l (suc zero) b lt = among_cond b 1 _ (omega arith) (among_cond (ltb 0 (get_or l 0 0)) 0 _ (omega arith) (among_cond (ltb 0 (get_or l 1 0)) 1 None (omega arith) tt))
next_among l (suc (suc t)) b lt = absurd (omega arith)

-- one lay
lays_one : (p q : Ring) (f : ℕ → ℕ) (t : ℕ) (b : Bool) (a : ℕ) (go : Bool) → a < 2 → Holds p f t b → (go ≡ true → f a ≡ 0) → (go ≡ true → Asked ghosts p a q) → (go ≡ false → q ≡ p) →
    Holds q (λ c. cond (eqb c a && go) (works c) (f c)) t b
lays_one p q f t b a true lt h idle asked kept =
    let can : layable (ghosts.view p) a ≡ true = let e = h.left a lt in let i = idle refl in let n = h.count in grind (arith, nat_tests) in
    let (rows, turn, busy) = (asked refl).done can in
    record {
      count = rows.number ∙ h.count;
      work = λ c lc. ap (λ (ws : List ℕ). get_or ws c 0) rows.works ∙ h.work c lc;
      left = λ c lc. elim (cases_eq c a) [
        | inl same ↦ rw same (let y : eqb a a ≡ true = grind (arith, nat_tests) in rw y (rows.given ∙ h.work a lt))
        | inr other ↦ let y : eqb c a ≡ false = grind (arith, nat_tests) in rw y (rows.others c other ∙ h.left c lc)
      ];
      turn = turn ∙ h.turn;
      busy = busy ∙ h.busy;
    }
lays_one p q f t b a false lt h idle asked kept = rw (kept refl) (record {
  count = h.count;
  work = h.work;
  left = λ c lc. let y : (eqb c a && false) ≡ false = grind (arith, nat_tests) in rw y (h.left c lc);
  turn = h.turn;
  busy = h.busy;
})

-- those of a tick
lays_all : (p q : Ring) (f : ℕ → ℕ) (t : ℕ) (b : Bool) (go : ℕ → Bool) → Holds p f t b → ((a : ℕ) → a < 2 → go a ≡ true → f a ≡ 0) → Lays ghosts go 2 p q → Holds q (laid go f) t b
lays_all p q f t b go h idle l =
    let r = l.0 in
    let l₁ = l.1 in
    let one = lays_one l₁.0 r f t b 0 (go 0) (omega arith) (subst (λ (x : Ring). Holds x f t b) (sym l₁.1) h) (idle 0 (omega arith)) l₁.2 l₁.3 in
    let two = lays_one r q _ t b 1 (go 1) (omega arith) one (idle 1 (omega arith)) l.2 l.3 in
    record { count = two.count; work = two.work; left = both (two.left 0 (omega arith)) (two.left 1 (omega arith)); turn = two.turn; busy = two.busy }
  where
    both : get_or (lefts_of q.rows.list.items) 0 0 ≡ laid go f 0 → get_or (lefts_of q.rows.list.items) 1 0 ≡ laid go f 1 → (a : ℕ) → a < 2 → get_or (lefts_of q.rows.list.items) a 0 ≡ laid go f a
    both e f' zero lt = e
    both e f' (suc zero) lt = f'
    both e f' (suc (suc a)) lt = absurd (omega arith)

-- a bench that stands as on paper
record As (r : Turning) (z : Stand Ring) : Type 0 where
  state : Matches graph z.state r.state
  ring : Holds z.policy r.left r.turn r.busy
  same : (a : ℕ) → a < 2 → r.state.left a ≡ r.left a
  small : r.turn < 2

-- the starts of a later tick: from the ring q, which holds the lefts f
module _ (r : Turning) (b z : Stand Ring) (q : Ring) (h : As r b) (tk : Ticks ghosts graph works b q z) (f : ℕ → ℕ) (t : ℕ) (on : Bool) (hq : Holds q f t on) (lt : t < 2)
    (falls : (a : ℕ) → a < 2 → f a ≤ r.left a) where
  abbrev s : State
  s = finish graph (taken r.state f) r.state

  took : (a : ℕ) → a < 2 → taken b.state (ghosts.view q).left a ≡ taken r.state f a
  took a ha = ap₂ (λ x y. cond (ltb 0 x) y 0) (h.state.alike.left a ha) (hq.left a ha)

  plain : (a : ℕ) → a < 2 → taken r.state f a ≡ f a
  plain a ha = taken_is r.state r.left f a (h.same a ha) (λ e. omega (arith, falls a ha))

  lands : As (goes s f t on) z
  lands =
      let e = tick_matches graph sound works (taken b.state (ghosts.view q).left) (taken r.state f) b.state r.state h.state took in
      record {
        state = matches_trans graph _ _ _ tk.goes e;
        ring = lays_all q z.policy f t on (ready graph s) hq (λ a ha go. sym (plain a ha) ∙ at_rest (taken r.state f a) (ready_true graph s a go).0)
            (lays_same ghosts _ (ready graph s) 2 q z.policy (λ a ha. ready_alike graph sound _ _ (finish_alike graph sound _ _ b.state r.state h.state.alike took) a ha) tk.lays);
        same = λ a ha. ap (λ x. cond (ready graph s a) (works a) x) (plain a ha);
        small = lt;
      }

served_one : (x : ℕ) → when (eqb x x) 1 ≡ 1
served_one x = grind (arith, nat_tests)

served_other : (a x : ℕ) → (a ≡ x → ⊥) → when (eqb a x) 1 ≡ 0
served_other a x ne = grind (arith, nat_tests)

less_at : (f : ℕ → ℕ) (x a : ℕ) → less f x a ≤ f a
less_at f x a = omega arith

onwards : (r : Turning) (b z : Stand Ring) (q : Ring) → As r b → Ticks ghosts graph works b q z → As (onward r) z
onwards r b z q h tk = by (next 2 (r.left 0 ∷ r.left 1 ∷ []) r.turn r.busy) (next_among (r.left 0 ∷ r.left 1 ∷ []) r.turn r.busy h.small) (subst (λ (o : Option ℕ). RingMoves o (lefts_of p.rows.list.items) p.turn p.busy (lefts_of q.rows.list.items) q.turn q.busy) who tk.serves.moves)
  where
    p : Ring
    p = b.policy

    who : next (length p.rows.list.items) (lefts_of p.rows.list.items) p.turn p.busy ≡ next 2 (r.left 0 ∷ r.left 1 ∷ []) r.turn r.busy
    who = next_from (lefts_of p.rows.list.items) _ _ _ _ _ h.ring.count h.ring.turn h.ring.busy ∙ (next_at (lefts_of p.rows.list.items) (r.left 0) (r.left 1) r.turn r.busy (h.ring.left 0 (omega arith)) (h.ring.left 1 (omega arith)) h.small)

    by : (o : Option ℕ) → Among o → RingMoves o (lefts_of p.rows.list.items) p.turn p.busy (lefts_of q.rows.list.items) q.turn q.busy → As (moved r o) z
    by None _ m = lands r b z q h tk r.left r.turn r.busy
        (record {
          count = tk.serves.number ∙ h.ring.count;
          work = λ a ha. ap (λ (ws : List ℕ). get_or ws a 0) tk.serves.works ∙ h.ring.work a ha;
          left = λ a ha. ap (λ (ls : List ℕ). get_or ls a 0) m.lefts ∙ h.ring.left a ha;
          turn = m.turn ∙ h.ring.turn;
          busy = m.same ∙ h.ring.busy;
        })
        h.small (λ a ha. omega arith)
    by (Some x) lt m =
        let left : (a : ℕ) → a < 2 → get_or (lefts_of q.rows.list.items) a 0 ≡ less r.left x a = λ a ha. elim (cases_eq a x) [
          | inl same ↦ rw same (omega (arith, served_one x, m.served, h.ring.left x lt))
          | inr other ↦ omega (arith, served_other a x other, m.others a other, h.ring.left a ha)
        ] in
        lands r b z q h tk (less r.left x) x (ltb 0 (less r.left x x))
        (record {
          count = tk.serves.number ∙ h.ring.count;
          work = λ a ha. ap (λ (ws : List ℕ). get_or ws a 0) tk.serves.works ∙ h.ring.work a ha;
          left = left;
          turn = m.turn;
          busy = m.busy ∙ ap (ltb 0) (left x lt);
        })
        lt (λ a ha. less_at r.left x a)

begins : (p : Ring) (z : Stand Ring) → NewRing p → Begins ghosts graph works p z → As first z
begins p z new b =
    let (rows, turn, busy) = b.clears in
    record {
      state = b.starts;
      ring = lays_all b.cleared z.policy (λ a. 0) 1 false (ready graph (initial_state graph))
          (record {
            count = rows.number ∙ new.count;
            work = λ a ha. ap (λ (ws : List ℕ). get_or ws a 0) rows.works ∙ new.works a ha;
            left = λ a ha. rows.none a;
            turn = turn ∙ new.turn;
            busy = busy;
          })
          (λ a ha go. refl) b.lays;
      same = λ a ha. refl;
      small = omega arith;
    }

pub only_run : OnlyRun
only_run p z q new b tk t a ha = (stands t).state.ended a ha
  where
    stands : (t : ℕ) → As (shared t) (z t)
    stands zero = begins p (z 0) new b
    stands (suc t) = onwards (shared t) (z t) (z (suc t)) (q t) (stands t) (tk t)
