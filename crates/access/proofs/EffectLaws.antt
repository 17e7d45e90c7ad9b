-- An effect on the bytes is the effect on shared memory read from them; the threads' records, the length and every word outside the
-- parts that it stores to are left alone. Assumes nothing.
use Prim.Native.Nat.{ℕ, ◌^◌, ◌≤◌, ◌<◌}
use native.Mathlib.Omega.{arith}
use mathlib.Core.Path.{◌≡◌, refl, sym, ap, subst, ◌∙◌}
use mathlib.Core.List.{List}
use lib.ListN.{length}
use Rattle.words.specs.Word.{word}
use Rattle.words.specs.Inner.{Fit}
use Rattle.words.proofs.Laws.{word_other, length-set_word}
use Rattle.region.specs.Inner.{Framed, NodeFits}
use Rattle.region.specs.Record.{cell_words, zero_item}
use Rattle.region.specs.Shape.{node_count}
use Rattle.region.specs.Shared.{set_node, set_cell, set_free, cell_in, shared_in, set_node_in, set_cell_in}
use Rattle.region.specs.declared.frame.Frame.{Frame}
use Rattle.region.specs.declared.record.Cell.{Cell}
use Rattle.region.specs.declared.record.Node.{Node}
use Rattle.region.proofs.Views.{OutsideShared, outside_word, length-set_node_in, length-set_cell_in, word-set_node_in, word-set_cell_in, shared_set_node, shared_set_cell, shared_set_depth, shared_set_free}
use Rattle.access.specs.Effect.{effect_shared, effect_bytes, freed_bytes, push_bytes, freed}
use Rattle.access.specs.declared.effect.Effect.{Effect}
use Rattle.access.specs.declared.effect.Effect.TheVariants.{Nothing, Grow, Push, Pop, Exchange, Clean, Detach, Free}

-- numbers of nodes and cells that exist, and values that fit their words
abbrev pub IsNode : Frame → ℕ → Type 0
IsNode f n = (1 ≤ n) × (n ≤ node_count f.shape)

abbrev pub IsCell : Frame → ℕ → Type 0
IsCell f c = (1 ≤ c) × (c ≤ f.shape.cells)

abbrev pub EffectFits : Frame → List ℕ → Effect → Type 0
EffectFits f b Nothing = Unit
EffectFits f b (Grow d) = d < 2 ^ 32
EffectFits f b (Push n v c x) =
    IsNode f n × IsCell f c × NodeFits f.width v × Fit (cell_words (record { item = (cell_in f b c).item; next = x }))
EffectFits f b (Pop v c) =
    IsNode f 1 × IsCell f c × NodeFits f.width v × (word b f.free < 2 ^ 32)
EffectFits f b (Exchange n v k w) = IsNode f n × IsNode f k × NodeFits f.width v × NodeFits f.width w
EffectFits f b (Clean n v) = IsNode f n × NodeFits f.width v
EffectFits f b (Detach v) = IsNode f 1 × NodeFits f.width v
EffectFits f b (Free c) = IsCell f c × (word b f.free < 2 ^ 32)

-- The length stays.
length_freed : (f : Frame) (b : List ℕ) (c : ℕ) → length (freed_bytes f b c) ≡ length b
unfolding freed_bytes
length_freed f b c = length-set_word _ f.free c ∙ length-set_cell_in f b c _

pub length_effect : (f : Frame) (b : List ℕ) (e : Effect) → length (effect_bytes f b e) ≡ length b
unfolding effect_bytes push_bytes
length_effect f b Nothing = refl
length_effect f b (Grow d) = length-set_word b f.depth d
length_effect f b (Push n v c x) = length-set_cell_in f (set_node_in f b n v) c _ ∙ length-set_node_in f b n v
length_effect f b (Pop v c) = length_freed f (set_node_in f b 1 v) c ∙ length-set_node_in f b 1 v
length_effect f b (Exchange n v k w) = length-set_node_in f (set_node_in f b n v) k w ∙ length-set_node_in f b n v
length_effect f b (Clean n v) = length-set_node_in f b n v
length_effect f b (Detach v) = length-set_node_in f b 1 v
length_effect f b (Free c) = length_freed f b c

framed_after : (f : Frame) (b b' : List ℕ) → length b' ≡ length b → Framed f (length b) → Framed f (length b')
framed_after f b b' e framed = subst (Framed f) (sym e) framed

pub framed_node : (f : Frame) (b : List ℕ) (n : ℕ) (v : Node) → Framed f (length b) → Framed f (length (set_node_in f b n v))
framed_node f b n v = framed_after f b (set_node_in f b n v) (length-set_node_in f b n v)

-- An effect means the same on the bytes and on shared memory as functions.
module _ (f : Frame) where
  freed_shared : (b : List ℕ) (c : ℕ) → Framed f (length b) → IsCell f c → word b f.free < 2 ^ 32 → c < 2 ^ 32
      → shared_in f (freed_bytes f b c) ≡ freed (shared_in f b) c
  unfolding freed_bytes shared_in
  freed_shared b c framed i h hc =
      let z : Cell = record { item = zero_item; next = word b f.free } in
      let b₁ : List ℕ = set_cell_in f b c z in
      shared_set_free f b₁ (framed_after f b b₁ (length-set_cell_in f b c z) framed) c hc
      ∙ ap (λ m. set_free m c) (shared_set_cell f b framed c z i.0 i.1 (omega arith, (omega arith, (h, tt))))

  module _ (b : List ℕ) (framed : Framed f (length b)) (few : f.shape.cells < 2 ^ 32) where
    push_shared : (n : ℕ) (v : Node) (c x : ℕ) → EffectFits f b (Push n v c x)
        → shared_in f (push_bytes f b n v c x)
        ≡ set_cell (set_node (shared_in f b) n v) c (record { item = ((shared_in f b).cell c).item; next = x })
    unfolding push_bytes shared_in
    push_shared n v c x g =
        let y : Cell = record { item = (cell_in f b c).item; next = x } in
        shared_set_cell f (set_node_in f b n v) (framed_node f b n v framed) c y g.1.0 g.1.1 g.3
        ∙ ap (λ m. set_cell m c y) (shared_set_node f b framed n v g.0.0 g.0.1 g.2)

    pop_shared : (v : Node) (c : ℕ) → EffectFits f b (Pop v c)
        → shared_in f (freed_bytes f (set_node_in f b 1 v) c) ≡ freed (set_node (shared_in f b) 1 v) c
    unfolding shared_in
    pop_shared v c g =
        let e = shared_set_node f b framed 1 v g.0.0 g.0.1 g.2 in
        let k : word (set_node_in f b 1 v) f.free ≡ word b f.free = ap (λ m. m.free) e in
        freed_shared (set_node_in f b 1 v) c (framed_node f b 1 v framed) g.1 (omega (arith, k, g.3)) (omega (arith, g.1.1, few))
        ∙ ap (λ m. freed m c) e

    exchange_shared : (n : ℕ) (v : Node) (k : ℕ) (x : Node) → EffectFits f b (Exchange n v k x)
        → shared_in f (set_node_in f (set_node_in f b n v) k x) ≡ set_node (set_node (shared_in f b) n v) k x
    exchange_shared n v k x g =
        shared_set_node f (set_node_in f b n v) (framed_node f b n v framed) k x g.1.0 g.1.1 g.3
        ∙ ap (λ m. set_node m k x) (shared_set_node f b framed n v g.0.0 g.0.1 g.2)

    pub effect_shared_lem : (e : Effect) → EffectFits f b e → shared_in f (effect_bytes f b e) ≡ effect_shared (shared_in f b) e
    unfolding effect_bytes effect_shared
    effect_shared_lem Nothing g = refl
    effect_shared_lem (Grow d) g = shared_set_depth f b framed d g
    effect_shared_lem (Push n v c x) g = push_shared n v c x g
    effect_shared_lem (Pop v c) g = pop_shared v c g
    effect_shared_lem (Exchange n v k x) g = exchange_shared n v k x g
    effect_shared_lem (Clean n v) g = shared_set_node f b framed n v g.0.0 g.0.1 g.1
    effect_shared_lem (Detach v) g = shared_set_node f b framed 1 v g.0.0 g.0.1 g.1
    effect_shared_lem (Free c) g = freed_shared b c framed g.0 g.1 (omega (arith, g.0.1, few))

-- Words outside the parts that effects store to.
module _ (f : Frame) (j : ℕ) (o : OutsideShared f j) where
  node_word : (b : List ℕ) (n : ℕ) (v : Node) → Framed f (length b) → word (set_node_in f b n v) j ≡ word b j
  node_word b n v framed = word-set_node_in f b framed n j v o.nodes

  freed_word : (b : List ℕ) (c : ℕ) → Framed f (length b) → word (freed_bytes f b c) j ≡ word b j
  unfolding freed_bytes
  freed_word b c framed = word_other _ f.free j c (outside_word o.free) ∙ word-set_cell_in f b framed c j _ o.cells

  pub effect_word : (b : List ℕ) → Framed f (length b) → (e : Effect) → word (effect_bytes f b e) j ≡ word b j
  unfolding effect_bytes push_bytes
  effect_word b framed Nothing = refl
  effect_word b framed (Grow d) = word_other b f.depth j d (outside_word o.depth)
  effect_word b framed (Push n v c x) =
      word-set_cell_in f (set_node_in f b n v) (framed_node f b n v framed) c j _ o.cells ∙ node_word b n v framed
  effect_word b framed (Pop v c) = freed_word (set_node_in f b 1 v) c (framed_node f b 1 v framed) ∙ node_word b 1 v framed
  effect_word b framed (Exchange n v k x) =
      node_word (set_node_in f b n v) k x (framed_node f b n v framed) ∙ node_word b n v framed
  effect_word b framed (Clean n v) = node_word b n v framed
  effect_word b framed (Detach v) = node_word b 1 v framed
  effect_word b framed (Free c) = freed_word b c framed
