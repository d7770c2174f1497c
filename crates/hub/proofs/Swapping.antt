-- Two requests on different slots go in either order: each puts an entry and an area where the other doesn't look. The stored number is the count
-- before and after each, so that it stops neither of them, and is the same where the tables are.
-- Assumes nothing.
use Prim.Native.Nat.{ℕ}
use mathlib.Core.Path.{◌≡◌, sym, ◌∙◌, ap}
use mathlib.Core.List.{List}
use lib.Seq.{set_comm}
use Rattle.hub.specs.Requests.{Hub, Request, slot_of, Reply, step, count_open}
use Rattle.hub.specs.Promises.{IsCount, Swap}
use Rattle.hub.proofs.Slots.{with_swap}
use Rattle.hub.proofs.Reaching.{Made, put, replied, seen, number, step_is, fits, elsewhere}
use Rattle.hub.proofs.Storing.{seen_calm, stays-count}

module _ (h : Hub) (count : IsCount h) where
  abbrev put_by : List ℕ → Request → Hub
  put_by widths r = put h (slot_of r) (seen widths h r).entry (seen widths h r).area (number widths h r)

  -- what one request has put is not seen by the other, nor is the number
  not_seen : (v w : List ℕ) (p q : Request) → (slot_of p ≡ slot_of q → ⊥) → seen w (put_by v p) q ≡ seen w h q
  not_seen v w p q n =
      let x = seen v h p in
      let still : IsCount (put_by v p) = rw (step_is v h p) at (stays-count v h count p) in
      seen_calm w (put_by v p) still q ∙ elsewhere w h (slot_of p) x.entry x.area 1 (fits v h p) q n ∙ sym (seen_calm w h count q)

  -- one request and then the other: what the other makes of the start
  one_then : (v w : List ℕ) (p q : Request) → (slot_of p ≡ slot_of q → ⊥)
      → step w (step v h p).after q ≡ replied (put_by v p) (slot_of q) (seen w h q) (number w (put_by v p) q)
  one_then v w p q n =
      ap (λ (x : Reply). step w x.after q) (step_is v h p)
      ∙ step_is w (put_by v p) q
      ∙ ap (λ (m : Made). replied (put_by v p) (slot_of q) m (number w (put_by v p) q)) (not_seen v w p q n)

pub swap : Swap
swap v w h p q count n =
    let pq = one_then h count v w p q n in
    let qp = one_then h count w v q p (λ e. n (sym e)) in
    let x = seen v h p in
    let y = seen w h q in
    let same : (step w (step v h p).after q).after.table ≡ (step v (step w h q).after p).after.table = rw (pq, qp) (set_comm h.table (slot_of p) (slot_of q) x.entry y.entry n) in
    record {
      first_answer = rw (qp, step_is v h p);
      second_answer = rw (pq, step_is w h q);
      same_table = same;
      same_records = rw (pq, qp) (with_swap h.records (slot_of p) (slot_of q) x.area y.area n (fits v h p) (fits w h q));
      same_stored = stays-count w (step v h p).after (stays-count v h count p) q ∙ ap count_open same ∙ sym (stays-count v (step w h q).after (stays-count w h count q) p);
    }
