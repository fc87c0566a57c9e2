-- The history: words, six to an entry, the oldest edit first, and a count. Entries from the count on are not looked at, and blank in what is given back.
use Rattle.std.specs.Prelude.{Bool, List, [], ◌∷◌, ℕ, ◌+◌, ◌-◌, ◌*◌, get_or, replicate, ltb, eqb}
use Rattle.laws.specs.Choice.{both, choose}
use Rattle.laws.specs.Range.{some, tabulate}
use Rattle.model.specs.Limits.{EDIT_WORDS}
use Rattle.edits.specs.declared.Entry.{Entry}

pub record History : Type 0 where
  pub count : ℕ
  pub words : List ℕ

abbrev pub past : ℕ → List ℕ → History
past count words = record { count = count; words = words }

-- an entry's kind
abbrev pub ADD : ℕ
ADD = 1

abbrev pub DELETE : ℕ
DELETE = 2

abbrev pub DRAW : ℕ
DRAW = 3

abbrev pub ERASE : ℕ
ERASE = 4

-- ---- entries as words
abbrev pub FIELDS : ℕ
FIELDS = 6

abbrev pub fields : Entry → List ℕ
fields e = e.kind ∷ e.at ∷ e.to ∷ e.id ∷ e.out ∷ e.into ∷ []

-- the entry at k
unfoldable pub entry : List ℕ → ℕ → Entry
entry words k = record {
  kind = get_or words (k * FIELDS) 0;
  at = get_or words (k * FIELDS + 1) 0;
  to = get_or words (k * FIELDS + 2) 0;
  id = get_or words (k * FIELDS + 3) 0;
  out = get_or words (k * FIELDS + 4) 0;
  into = get_or words (k * FIELDS + 5) 0;
}

abbrev pub none : Entry
none = record { kind = 0; at = 0; to = 0; id = 0; out = 0; into = 0 }

-- the first n entries, then this one, then blank words
unfoldable pub ending_at : ℕ → Entry → List ℕ → ℕ → ℕ
ending_at n e words j = choose (ltb j (n * FIELDS)) (get_or words j 0) (get_or (fields e) (j - n * FIELDS) 0)

unfoldable pub ending : ℕ → Entry → List ℕ → List ℕ
ending n e words = tabulate EDIT_WORDS (ending_at n e words)

-- ---- what the calls do to a history
abbrev pub fresh : History
fresh = record { count = 0; words = replicate EDIT_WORDS 0 }

-- one entry more
abbrev pub push : History → Entry → History
push h e = record { count = h.count + 1; words = ending h.count e h.words }

-- the first n entries
abbrev pub keep : ℕ → History → History
keep n h = record { count = n; words = ending n none h.words }

abbrev pub newest : History → Entry
newest h = entry h.words (h.count - 1)

-- the entries before the newest
abbrev pub rest : History → History
rest h = record { count = h.count - 1; words = h.words }

-- ---- deleted ids
-- the entry deletes this id
abbrev pub takes : Entry → ℕ → Bool
takes e id = both (eqb e.kind DELETE) (eqb e.id id)

-- one of the first n entries does
unfoldable pub deleted_by : List ℕ → ℕ → ℕ → Bool
deleted_by words n id = some n (λ k. takes (entry words k) id)

abbrev pub deleted : History → ℕ → Bool
deleted h id = deleted_by h.words h.count id
