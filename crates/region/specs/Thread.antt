-- The thread's record as words, and the records that its methods give.
use Rattle.std.specs.Prelude.{ℕ, ◌+◌, Bool, List, [], ◌∷◌, ◌++◌, eqb, get_or}
use Rattle.words.specs.Word.{words_at, set_words}
use Rattle.region.specs.Place.{place_of, place_number, waiting_levels}
use Rattle.region.specs.Record.{copy_size, item_of, copy_of, copy_words, zero_item, zero_copy}
use Rattle.region.specs.declared.place.Place.{Place}
use Rattle.region.specs.declared.place.Place.TheVariants.{Idle, ReadDepth, MendReadNode}
use Rattle.region.specs.declared.record.Item.{Item}
use Rattle.region.specs.declared.record.NodeCopy.{NodeCopy}
use Rattle.region.specs.declared.thread.Copies.{Copies}
use Rattle.region.specs.declared.thread.Search.{Search}
use Rattle.region.specs.declared.thread.Thread.{Thread}

-- a permission is 0 to 3: both bits set
abbrev pub greatest_permission : ℕ
greatest_permission = 3

-- which word of the record holds the place, the tries, the node and the waiting levels, counted from 0 as in `thread_of`
abbrev pub place_word : ℕ
place_word = 1

abbrev pub tries_word : ℕ
tries_word = 7

abbrev pub node_word : ℕ
node_word = 10

abbrev pub waiting_word : ℕ
waiting_word = 11

-- the first word of each node copy, one copy behind the other; w is the words of a counter
abbrev pub first_copy_word : ℕ
first_copy_word = 15

abbrev pub second_copy_word : ℕ → ℕ
second_copy_word w = first_copy_word + copy_size w

abbrev pub third_copy_word : ℕ → ℕ
third_copy_word w = second_copy_word w + copy_size w

-- 33 words where counters have one word, 36 where they have two
abbrev pub thread_size : ℕ → ℕ
thread_size w = third_copy_word w + copy_size w

abbrev pub search_of : List ℕ → ℕ → ℕ → ℕ → ℕ → Search
search_of ws a b c d = record { leaf = get_or ws a 0; tries = get_or ws b 0; lo = get_or ws c 0; hi = get_or ws d 0 }

-- permission, place, key, tag, own cell, d, leaf, tries, lo, hi, node, waiting levels, after, result key, result tag,
-- then three node copies
abbrev pub thread_of : ℕ → List ℕ → Thread
thread_of w ws =
    record {
      permission = get_or ws 0 0;
      place = place_of (get_or ws place_word 0) (get_or ws waiting_word 0);
      item = item_of ws 2;
      own = get_or ws 4 0;
      depth = get_or ws 5 0;
      search_state = search_of ws 6 tries_word 8 9;
      node = get_or ws node_word 0;
      after = get_or ws 12 0;
      result = item_of ws 13;
      copies =
          record {
            first = copy_of w ws first_copy_word;
            second = copy_of w ws (second_copy_word w);
            third = copy_of w ws (third_copy_word w);
          };
    }

-- the words before the node copies
abbrev pub field_words : Thread → List ℕ
field_words t =
    t.permission
    ∷ place_number t.place
    ∷ t.item.key
    ∷ t.item.tag
    ∷ t.own
    ∷ t.depth
    ∷ t.search_state.leaf
    ∷ t.search_state.tries
    ∷ t.search_state.lo
    ∷ t.search_state.hi
    ∷ t.node
    ∷ waiting_levels t.place
    ∷ t.after
    ∷ t.result.key
    ∷ t.result.tag
    ∷ []

abbrev pub thread_words : ℕ → Thread → List ℕ
thread_words w t = field_words t ++ (copy_words w t.copies.first ++ (copy_words w t.copies.second ++ copy_words w t.copies.third))

-- the thread's record at word `at` of the bytes b, and b with another one there
unfoldable pub thread_at : ℕ → List ℕ → ℕ → Thread
thread_at w b at = thread_of w (words_at b at (thread_size w))

unfoldable pub set_thread_at : ℕ → List ℕ → ℕ → Thread → List ℕ
set_thread_at w b at t = set_words b at (thread_words w t)

abbrev pub zero_search : Search
zero_search = record { leaf = 0; tries = 0; lo = 0; hi = 0 }

abbrev pub zero_copies : Copies
zero_copies = record { first = zero_copy; second = zero_copy; third = zero_copy }

-- a record from its fields
abbrev pub thread_with : ℕ → Place → Item → ℕ → ℕ → Search → ℕ → ℕ → Item → Copies → Thread
thread_with p x i o d s n a r c =
    record {
      permission = p;
      place = x;
      item = i;
      own = o;
      depth = d;
      search_state = s;
      node = n;
      after = a;
      result = r;
      copies = c;
    }

-- idle, with this permission and every other word 0
abbrev pub idle_thread : ℕ → Thread
idle_thread p = thread_with p Idle zero_item 0 0 zero_search 0 0 zero_item zero_copies

-- going idle zeroes every field but the permission
unfoldable pub gone_idle : Thread → Thread
gone_idle t = idle_thread t.permission

-- any other field keeps what was last put in it: the record with another value in one field
unfoldable pub with_permission : Thread → ℕ → Thread
with_permission t x =
    thread_with x t.place t.item t.own t.depth t.search_state t.node t.after t.result t.copies

unfoldable pub at_place : Thread → Place → Thread
at_place t x =
    thread_with t.permission x t.item t.own t.depth t.search_state t.node t.after t.result t.copies

unfoldable pub with_item : Thread → Item → Thread
with_item t x =
    thread_with t.permission t.place x t.own t.depth t.search_state t.node t.after t.result t.copies

unfoldable pub with_own : Thread → ℕ → Thread
with_own t x =
    thread_with t.permission t.place t.item x t.depth t.search_state t.node t.after t.result t.copies

unfoldable pub with_depth : Thread → ℕ → Thread
with_depth t x =
    thread_with t.permission t.place t.item t.own x t.search_state t.node t.after t.result t.copies

unfoldable pub with_search : Thread → Search → Thread
with_search t x =
    thread_with t.permission t.place t.item t.own t.depth x t.node t.after t.result t.copies

unfoldable pub with_node : Thread → ℕ → Thread
with_node t x =
    thread_with t.permission t.place t.item t.own t.depth t.search_state x t.after t.result t.copies

unfoldable pub with_after : Thread → ℕ → Thread
with_after t x =
    thread_with t.permission t.place t.item t.own t.depth t.search_state t.node x t.result t.copies

unfoldable pub with_result : Thread → Item → Thread
with_result t x =
    thread_with t.permission t.place t.item t.own t.depth t.search_state t.node t.after x t.copies

unfoldable pub with_copies : Thread → Copies → Thread
with_copies t x =
    thread_with t.permission t.place t.item t.own t.depth t.search_state t.node t.after t.result x

-- the record with another first, second or third node copy
unfoldable pub with_first : Thread → NodeCopy → Thread
unfolding with_copies
with_first t x = with_copies t (record { first = x; second = t.copies.second; third = t.copies.third })

unfoldable pub with_second : Thread → NodeCopy → Thread
unfolding with_copies
with_second t x = with_copies t (record { first = t.copies.first; second = x; third = t.copies.third })

unfoldable pub with_third : Thread → NodeCopy → Thread
unfolding with_copies
with_third t x = with_copies t (record { first = t.copies.first; second = t.copies.second; third = x })

-- 0 is idle
unfoldable pub is_idle : Thread → Bool
is_idle t = eqb (place_number t.place) 0

-- beginning sets the place (I1 or E1) and, for a put, key, tag and own cell; a take sets its place alone, E1, or 17 for a list
unfoldable pub begun_put : Thread → Item → ℕ → Thread
unfolding at_place with_item with_own
begun_put t i own = at_place (with_own (with_item t i) own) ReadDepth

-- to M1 at node n, with these levels waiting
unfoldable pub mending : Thread → ℕ → ℕ → Thread
unfolding at_place with_node
mending t n w = at_place (with_node t n) (MendReadNode w)
