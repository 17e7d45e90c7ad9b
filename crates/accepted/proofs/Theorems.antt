-- The statements of specs/Theorems.antt, under their names. That the records of a history are accepted follows from demand 3 as stated, and from
-- what the calls refuse. Assumes nothing.
use Prim.Native.Nat.{ℕ, zero, suc, ◌+◌, ◌^◌, ◌≤◌, ◌<◌}
use native.Mathlib.Omega.{arith}
use mathlib.Core.Path.{◌≡◌, refl, ap}
use mathlib.Core.Bool.{true}
use mathlib.Core.List.{List, [], ◌∷◌}
use borrow.Author.Tests.{leb-true}
use native.Mathlib.Decide.{ℕ_discrete}
use lib.Dec.{leb}
use lib.ListN.{length, get_or}
use Rattle.region.specs.Record.{greatest_key, greatest_tag, is_item, zero_item}
use Rattle.region.proofs.Shapes.{and_left, and_right, between_most}
use Rattle.layout.specs.Layout.{layout_bytes}
use Rattle.theory.specs.Ledger.{Ledger, empty_ledger}
use Rattle.records.specs.Recorded.{in_range}
use Rattle.records.specs.declared.form.Recorded.{Recorded}
use Rattle.records.proofs.Ranges.{range_empty, range_item, range_kind, range_thread}
use Rattle.bag.specs.Demand3.{Agrees, AnswerSays}
use Rattle.bag.specs.History.{Moment, history}
use Rattle.bag.specs.Moments.{EachMoment, InEveryHistory}
use Rattle.bag.proofs.Operations.{Followed}
use Rattle.bag.proofs.Proved.{region_is_a_bag}
use Rattle.accepted.specs.HistoryRecords.{NoListBegins, history_records}
use Rattle.accepted.specs.Slices.{TimesFit, no_record}
use Rattle.accepted.specs.Theorems.{BagIsTheLedgers, HistoriesAreAccepted, HistoriesCanBeWritten}
use Rattle.accepted.proofs.Arranged.{InTurn, turn_accepted}
use Rattle.accepted.proofs.Bags.{bag_of, between_none, follows_plays, plays_follows}
use Rattle.accepted.proofs.Begins.{history_begins}
use Rattle.accepted.proofs.Recording.{Numbered, Pairs, Recording, recording}
use Rattle.accepted.proofs.Steps.{EachOf, Fits}
use Rattle.accepted.proofs.Written.{AllFit, has_written, written_bytes}
pub use Rattle.accepted.proofs.Linear.{accepted_is_linearizable}

pub bag_is_the_ledgers : BagIsTheLedgers
bag_is_the_ledgers rs =
    record {
      ledger_follows = plays_follows rs empty_ledger [] between_none;
      bag_plays = follows_plays rs empty_ledger [] between_none;
    }

-- Lists by number.
each_at : (P : Recorded → Type 0) (rs : List Recorded) → EachOf P rs → (k : ℕ) → k < length rs → P (get_or rs k no_record)
each_at P [] a k l = absurd (omega arith)
each_at P (r ∷ rs) a zero l = a.0
each_at P (r ∷ rs) a (suc k) l = each_at P rs a.1 k (omega arith)

pairs_at : (P : Recorded → Recorded → Type 0) (rs : List Recorded) → Pairs P rs → (a c : ℕ) → a < c → c < length rs
    → P (get_or rs a no_record) (get_or rs c no_record)
pairs_at P [] p a c l m = absurd (omega arith)
pairs_at P (r ∷ rs) p a zero l m = absurd (omega arith)
pairs_at P (r ∷ rs) p zero (suc c) l m = each_at (P r) rs p.0 c (omega arith)
pairs_at P (r ∷ rs) p (suc a) (suc c) l m = pairs_at P rs p.1 a c (omega arith) (omega arith)

numbered_at : (p : ℕ) (rs : List Recorded) → Numbered p rs → (k : ℕ) → k < length rs → (get_or rs k no_record).position ≡ suc (p + k)
numbered_at p [] n k l = absurd (omega arith)
numbered_at p (r ∷ rs) n zero l = let e = n.0 in omega (arith, e)
numbered_at p (r ∷ rs) n (suc k) l = let e = numbered_at (suc p) rs n.1 k (omega arith) in omega (arith, e)

in_turn : (rs : List Recorded) → Recording empty_ledger 1 0 rs → InTurn rs
unfolding bag_of
in_turn rs r =
    record {
      ranged = each_at (λ x. in_range x ≡ true) rs r.ranged;
      numbered = λ k l. let e = numbered_at 0 rs r.numbered k l in omega (arith, e);
      begun = each_at (λ x. x.begin < x.answer) rs r.begun;
      in_time = pairs_at (λ a c. a.begin ≤ c.answer) rs r.in_time;
      one_by_one = pairs_at (λ a c. a.thread ≡ c.thread → a.answer < c.begin) rs r.one_by_one;
      played = r.played [] refl;
    }

-- The words of records in range fit.
item_fits : (r : Recorded) → in_range r ≡ true → (r.item.key < 2 ^ 32) × (r.item.tag < 2 ^ 32)
unfolding is_item
item_fits r e = go (ℕ_discrete r.kind 3)
  where
    go : Dec (r.kind ≡ 3) → (r.item.key < 2 ^ 32) × (r.item.tag < 2 ^ 32)
    go (yes k) = let z = range_empty r e k in (let a = ap (λ i. i.key) z in omega (arith, a), let a = ap (λ i. i.tag) z in omega (arith, a))
    go (no k) =
        let i = range_item r e k in
        let key = leb-true r.item.key greatest_key (and_left (leb r.item.key greatest_key) (leb r.item.tag greatest_tag) i) in
        let tag = leb-true r.item.tag greatest_tag (and_right (leb r.item.key greatest_key) (leb r.item.tag greatest_tag) i) in
        (omega (arith, key), omega (arith, tag))

words_fit : (p : ℕ) (rs : List Recorded) → p + length rs ≤ 1024 → EachOf (λ r. in_range r ≡ true) rs → Numbered p rs
    → EachOf (λ r. r.begin < r.answer) rs → TimesFit rs → AllFit rs
words_fit p [] few ranged numbered begun times = tt
words_fit p (r ∷ rs) few ranged numbered begun times =
    let kind = between_most 1 r.kind 3 (range_kind r ranged.0) in
    let thread = between_most 1 r.thread 64 (range_thread r ranged.0) in
    let b = begun.0 in
    let u = times.0 in
    let n = numbered.0 in
    let item = item_fits r ranged.0 in (
      (
        omega (arith, kind),
        (omega (arith, thread), (omega (arith, b, u), (u, (omega (arith, n, few), (item.0, (item.1, tt)))))),
      ),
      words_fit (suc p) rs (omega (arith, few)) ranged.1 numbered.1 begun.1 times.1,
    )

-- Demand 3's ledger, moment by moment.
followed : (ms : List Moment) (b : List ℕ) (l : Ledger) → Agrees l b ms → EachMoment (λ before m. AnswerSays m.event) b ms → Followed l ms
followed [] b l a s = tt
followed (m ∷ ms) b l a s =
    let n = a.1 in (n.0, n.1, s.0, followed ms m.region n.0 n.2 s.1)

no_operation : Fits empty_ledger (λ t. record { number = 0; item = zero_item }) 1
no_operation = record { op = λ t. tt; items = λ i h. absurd (omega (arith, h)) }

recorded : InEveryHistory λ s permissions b ms. NoListBegins ms → Recording empty_ledger 1 0 (history_records ms)
recorded s ps b e calls n lists =
    let laid = layout_bytes s ps b in
    let ms = history laid calls in
    let d = region_is_a_bag s ps b e calls n in
    recording ms empty_ledger (λ t. record { number = 0; item = zero_item }) 1 0 (followed ms laid empty_ledger d.bag d.answers_say)
    (history_begins calls laid) lists no_operation

pub histories_are_accepted : HistoriesAreAccepted
histories_are_accepted s ps b e calls n lists few records has =
    let ms = history (layout_bytes s ps b) calls in
    turn_accepted (history_records ms) (in_turn (history_records ms) (recorded s ps b e calls n lists)) few records has

pub histories_can_be_written : HistoriesCanBeWritten
histories_can_be_written s ps b e calls n lists few fit =
    let ms = history (layout_bytes s ps b) calls in
    let r = recorded s ps b e calls n lists in
    (has_written (history_records ms) (words_fit 0 (history_records ms) (omega (arith, few)) r.ranged r.numbered r.begun fit), written_bytes (history_records ms))
