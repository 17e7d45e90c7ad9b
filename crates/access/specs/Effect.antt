-- What a turn does to shared memory: as functions, which the theory reads, and as bytes, which the code changes.
use Rattle.std.specs.Prelude.{ℕ, List}
use Rattle.words.specs.Word.{word, set_word}
use Rattle.region.specs.Record.{zero_item}
use Rattle.region.specs.Shared.{Shared, set_node, set_cell, set_depth, set_free, cell_in, set_node_in, set_cell_in}
use Rattle.region.specs.declared.frame.Frame.{Frame}
use Rattle.region.specs.declared.record.Node.{Node}
use Rattle.access.specs.declared.effect.Effect.{Effect}
use Rattle.access.specs.declared.effect.Effect.TheVariants.{Nothing, Grow, Push, Pop, Exchange, Clean, Detach, Free}

-- "A freed cell has key and tag 0 and goes to the front of the chain."
abbrev pub freed : Shared → ℕ → Shared
freed m c = set_free (set_cell m c (record { item = zero_item; next = m.free })) c

unfoldable pub effect_shared : Shared → Effect → Shared
effect_shared m Nothing = m
effect_shared m (Grow d) = set_depth m d
effect_shared m (Push n v c x) = set_cell (set_node m n v) c (record { item = (m.cell c).item; next = x })
effect_shared m (Pop v c) = freed (set_node m 1 v) c
effect_shared m (Exchange n v k w) = set_node (set_node m n v) k w
effect_shared m (Clean n v) = set_node m n v
effect_shared m (Detach v) = set_node m 1 v
effect_shared m (Free c) = freed m c

unfoldable pub freed_bytes : Frame → List ℕ → ℕ → List ℕ
freed_bytes f b c = set_word (set_cell_in f b c (record { item = zero_item; next = word b f.free })) f.free c

unfoldable pub push_bytes : Frame → List ℕ → ℕ → Node → ℕ → ℕ → List ℕ
push_bytes f b n v c x = set_cell_in f (set_node_in f b n v) c (record { item = (cell_in f b c).item; next = x })

unfoldable pub effect_bytes : Frame → List ℕ → Effect → List ℕ
unfolding freed_bytes push_bytes
effect_bytes f b Nothing = b
effect_bytes f b (Grow d) = set_word b f.depth d
effect_bytes f b (Push n v c x) = push_bytes f b n v c x
effect_bytes f b (Pop v c) = freed_bytes f (set_node_in f b 1 v) c
effect_bytes f b (Exchange n v k w) = set_node_in f (set_node_in f b n v) k w
effect_bytes f b (Clean n v) = set_node_in f b n v
effect_bytes f b (Detach v) = set_node_in f b 1 v
effect_bytes f b (Free c) = freed_bytes f b c
