-- The limits, each as the code's constant of that name. Those of a model follow from three.
use Rattle.std.specs.Prelude.{ℕ, ◌-◌, ◌*◌}

abbrev pub STATES : ℕ
STATES = 128

abbrev pub ACTIONS : ℕ
ACTIONS = 32

abbrev pub BOXES : ℕ
BOXES = 16

abbrev pub ARROWS : ℕ
ARROWS = BOXES * BOXES

abbrev pub NEXT_ENTRIES : ℕ
NEXT_ENTRIES = STATES * ACTIONS

abbrev pub OUTPUT_ENTRIES : ℕ
OUTPUT_ENTRIES = STATES * ACTIONS

abbrev pub VIEW_ENTRIES : ℕ
VIEW_ENTRIES = BOXES * STATES

abbrev pub PAIRS : ℕ
PAIRS = BOXES * (BOXES - 1)

abbrev pub LIST_ENTRIES : ℕ
LIST_ENTRIES = 2 * PAIRS

abbrev pub LARGEST_ID : ℕ
LARGEST_ID = 65535

abbrev pub LARGEST_NUMBER : ℕ
LARGEST_NUMBER = 65535

abbrev pub SHEET_BYTES : ℕ
SHEET_BYTES = 32768

abbrev pub LABEL_BYTES : ℕ
LABEL_BYTES = 32

abbrev pub RUN_ACTIONS : ℕ
RUN_ACTIONS = 1024

abbrev pub VERDICT_BYTES : ℕ
VERDICT_BYTES = 8192

abbrev pub EDITS : ℕ
EDITS = 32

abbrev pub EDIT_WORDS : ℕ
EDIT_WORDS = 6 * EDITS
