-- A case: a layout, calls on the region that it leaves, and what they answer; the present depth is asked at the end.
use Rattle.std.specs.Prelude.{ℕ, ◌-◌, ◌*◌, ◌≡◌, List, [], ◌∷◌, ◌++◌, length, replicate}
use Rattle.words.specs.Word.{word, words_at, set_words}
use Rattle.region.specs.declared.refusal.Refusal.{Refusal}
use Rattle.region.specs.Answer.{answer_words}
use Rattle.region.specs.Refusal.{done, number_of}
use Rattle.region.specs.Shared.{shared_in}
use Rattle.region.specs.declared.answer.Answer.{Answer}
use Rattle.region.specs.declared.answer.Answer.TheVariants.{Moved, Inserted}
use Rattle.region.specs.declared.place.Place.TheVariants.{ReadRoot, ListReadRoot}
use Rattle.region.specs.declared.record.Item.{Item}
use Rattle.region.specs.declared.shape.Shape.{Shape}
use Rattle.records.specs.Accepts.{records_answer}
use Rattle.cost.specs.Cost.{take_cost}
use Rattle.layout.specs.Layout.{layout_refusal, layout_bytes}
use Rattle.readable.specs.Readable.{check_answer, frame_in}
use Rattle.convert.specs.Convert.{converted_bytes, convert_refusal}
use Rattle.permission.specs.Permit.{permit_bytes, permit_refusal}
use Rattle.begin.specs.Begin.{put_bytes, put_refusal, take_bytes, take_refusal}
use Rattle.run.specs.Run.{Served, run_result}

-- the steps of a row: calls on its region, questions about it, and words written into it
pub data Does : Type 0 where
  -- a thread's put of an item
  puts_item : ℕ → Item → Does
  -- a thread's take of one item, and of the root's list
  takes : ℕ → Does
  lists : ℕ → Does
  -- a thread's permission is set
  permits : ℕ → ℕ → Does
  -- a run of these threads' turns, each with this choice
  choosing : ℕ → List ℕ → Does
  -- a check of a copy of the region that has these words from a word on
  checks : ℕ → List ℕ → Does
  -- the cost of a take, the present depth, and the region's words from a word on, this many
  costs : Does
  depths : Does
  shows : ℕ → ℕ → Does
  -- a check of the records of a slice of this many bytes, which has these words from its first on; the region has no part in it
  checks_records : ℕ → List ℕ → Does
  -- an old region, all of whose words these are, is converted into the region (request 7)
  converts : List ℕ → Does
  -- these words are written into the region, which no call does, and it is checked
  writes : ℕ → List ℕ → Does

-- what a step answers: a number, the words of a run's answers, or the region's words
pub data Says : Type 0 where
  answered : ℕ → Says
  served : List ℕ → Says
  shown : List ℕ → Says

-- a call that is refused answers the refusal's number
abbrev pub refused : Refusal → Says
refused r = answered (number_of r)

abbrev pub tagged : ℕ → ℕ → Item
tagged k t = record { key = k; tag = t }

-- the tag is 9 where it is not said
abbrev pub item : ℕ → Item
item k = tagged k 9

abbrev pub puts : ℕ → ℕ → Does
puts t k = puts_item t (item k)

-- the choice is 0 where it is not said
abbrev pub turns : List ℕ → Does
turns ts = choosing 0 ts

-- a schedule of these threads' turns, each with this choice, which is one byte
abbrev schedule_of : ℕ → List ℕ → List ℕ
schedule_of c [] = []
schedule_of c (t ∷ ts) = t ∷ 0 ∷ 0 ∷ 0 ∷ c ∷ 0 ∷ 0 ∷ 0 ∷ schedule_of c ts

abbrev pub schedule : List ℕ → List ℕ
schedule ts = schedule_of 0 ts

-- the two parts of a list of steps with what they say
abbrev does_of : List (Does × Says) → List Does
does_of [] = []
does_of ((d, x) ∷ rest) = d ∷ does_of rest

abbrev says_of : List (Does × Says) → List Says
says_of [] = []
says_of ((d, x) ∷ rest) = x ∷ says_of rest

-- what is said, and the region afterwards
pub record Outcome : Type 0 where
  pub says : Says
  pub region : List ℕ

abbrev leaving : List ℕ → Says → Outcome
leaving b x = record { says = x; region = b }

-- the outcome of a run of n turns
abbrev ran : ℕ → Served → Outcome
ran n r = leaving r.region (served (words_at r.answers 0 (3 * n)))

-- the outcome of a conversion of the old region's bytes into b
abbrev converted : List ℕ → List ℕ → Outcome
converted old b = leaving (converted_bytes old b) (answered (convert_refusal old (length b)))

abbrev outcome_of : List ℕ → Does → Outcome
outcome_of b (puts_item t i) = leaving (put_bytes b t i) (answered (put_refusal b t i))
outcome_of b (takes t) = leaving (take_bytes b t ReadRoot) (answered (take_refusal b t))
outcome_of b (lists t) = leaving (take_bytes b t ListReadRoot) (answered (take_refusal b t))
outcome_of b (permits t p) = leaving (permit_bytes b t p) (answered (permit_refusal b t p))
outcome_of b (choosing c ts) = ran (length ts) (run_result b (schedule_of c ts) 1000 (replicate (12 * length ts) 0))
outcome_of b (checks at ws) = leaving b (answered (check_answer (set_words b at ws)))
outcome_of b (checks_records n ws) = leaving b (answered (records_answer (set_words (replicate n 0) 0 ws)))
outcome_of b (converts ws) = converted (set_words (replicate (4 * length ws) 0) 0 ws) b
outcome_of b costs = leaving b (answered (take_cost (shared_in (frame_in b) b)))
outcome_of b depths = leaving b (answered (word b 4))
outcome_of b (shows at n) = leaving b (shown (words_at b at n))
outcome_of b (writes at ws) = leaving (set_words b at ws) (answered (check_answer (set_words b at ws)))

-- what is said first, then what the rest says on the region afterwards
abbrev followed_by : (List ℕ → List Says) → Outcome → List Says
followed_by rest x = x.says ∷ rest x.region

abbrev said : List ℕ → List Does → List Says
said b [] = []
said b (d ∷ ds) = followed_by (λ l. said l ds) (outcome_of b d)

-- a layout of a slice of zero bytes, then these calls: layout's answer, and theirs
pub record Row : Type 0 where
  pub shape : Shape
  pub permissions : List ℕ
  pub bytes : ℕ
  pub does : List Does
  pub layout : ℕ
  pub says : List Says

-- the slice after the row's layout
abbrev laid : Row → List ℕ
laid r = layout_bytes r.shape r.permissions (replicate r.bytes 0)

abbrev pub Holds : Row → Type 0
Holds r =
    (layout_refusal r.shape r.permissions r.bytes ≡ r.layout)
    × (said (laid r) r.does ≡ r.says)

abbrev pub AllHold : List Row → Type 0
AllHold [] = Unit
AllHold (r ∷ rs) = Holds r × AllHold rs

-- D and C are said; two threads, threshold 1
abbrev pub shaped : ℕ → ℕ → Shape
shaped d c = record { depth = d; cells = c; threads = 2; threshold = 1 }

abbrev pub both : List ℕ
both = 3 ∷ 3 ∷ []

-- a row of steps with what they say; its last step asks for the depth
abbrev pub row_of : Shape → List ℕ → ℕ → ℕ → List (Does × Says) → ℕ → Row
row_of s ps bytes answer cs depth =
    record {
      shape = s;
      permissions = ps;
      bytes = bytes;
      does = does_of cs ++ depths ∷ [];
      layout = answer;
      says = says_of cs ++ answered depth ∷ [];
    }

-- calls on D 2, C 2, with these permissions
abbrev pub calls_row : List ℕ → List (Does × Says) → ℕ → Row
calls_row ps cs depth = row_of (shaped 2 2) ps 384 done cs depth

-- the words of these answers
abbrev words_of : List Answer → List ℕ
words_of [] = []
words_of (x ∷ xs) = answer_words x ++ words_of xs

abbrev pub serves : List Answer → Says
serves xs = served (words_of xs)

-- n turns of thread t with this choice, the last of which answers a
abbrev pub turns_choosing : ℕ → ℕ → ℕ → Answer → List (Does × Says)
turns_choosing c t n a = (choosing c (replicate n t), serves (replicate (n - 1) Moved ++ a ∷ [])) ∷ []

-- n turns of thread t, the last of which answers a
abbrev pub turns_to : ℕ → ℕ → Answer → List (Does × Says)
turns_to t n a = turns_choosing 0 t n a

-- a put by thread 1 that is inserted with its n-th access
abbrev pub inserting : Item → ℕ → List (Does × Says)
inserting i n = (puts_item 1 i, answered done) ∷ turns_to 1 n Inserted

-- a take by thread 1 that ends with its n-th access
abbrev pub taking : ℕ → Answer → List (Does × Says)
taking n a = (takes 1, answered done) ∷ turns_to 1 n a

-- calls on a region of one thread which is this long
abbrev pub one_thread : ℕ → ℕ → ℕ → List (Does × Says) → ℕ → Row
one_thread d c bytes cs depth = row_of (record { depth = d; cells = c; threads = 1; threshold = 1 }) (3 ∷ []) bytes done cs depth
