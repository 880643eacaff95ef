-- The memory of a desk by name: the words of its rows, the marks in them, and how long its tables and a call's own tables are (docs/LAYOUT.md).
-- src/lib.rt has the same names for code. The limits are those of the model: `limits_full` in crate `memory`.
use Rattle.std.specs.Prelude.{ℕ, ◌+◌, ◌*◌, ◌/◌}

-- ── a row of chunks: how many words it has, and the place of each ──
abbrev pub ROW : ℕ
ROW = 12

abbrev pub START : ℕ
START = 0

abbrev pub END : ℕ
END = 1

abbrev pub NEXT : ℕ
NEXT = 2

abbrev pub PREV : ℕ
PREV = 3

abbrev pub INTRO_AT : ℕ
INTRO_AT = 4

abbrev pub INTRO_N : ℕ
INTRO_N = 5

abbrev pub OUTRO_AT : ℕ
OUTRO_AT = 6

abbrev pub OUTRO_N : ℕ
OUTRO_N = 7

abbrev pub TEXT_AT : ℕ
TEXT_AT = 8

abbrev pub TEXT_N : ℕ
TEXT_N = 9

-- the mark of a frozen part: 0 is clear, any other word set
abbrev pub FROZEN : ℕ
FROZEN = 10

abbrev pub SPARE : ℕ
SPARE = 11

-- in `next` of the last chunk and `prev` of the first: the list ends
abbrev pub LIST_END : ℕ
LIST_END = 0

-- in `text_at`: the chunk has no replacement
abbrev pub NONE : ℕ
NONE = 0xFFFF_FFFF

-- ── a row of pieces: how many words it has, and the place of each ──
abbrev pub PIECE : ℕ
PIECE = 2

abbrev pub PIECE_AT : ℕ
PIECE_AT = 0

abbrev pub PIECE_N : ℕ
PIECE_N = 1

-- ── the limits of a desk ──
abbrev pub SOURCE_BYTES : ℕ
SOURCE_BYTES = 16384

abbrev pub CHUNKS : ℕ
CHUNKS = 512

abbrev pub PIECES : ℕ
PIECES = 1024

abbrev pub STORE_BYTES : ℕ
STORE_BYTES = 32768

-- ── the lent tables ──
-- the desk's own row and a row for each chunk
abbrev pub CHUNKS_LEN : ℕ
CHUNKS_LEN = (1 + CHUNKS) * ROW

-- one chunk's row at least
abbrev pub CHUNKS_LEAST : ℕ
CHUNKS_LEAST = 2 * ROW

-- two rows for each piece
abbrev pub PIECE_ROOM : ℕ
PIECE_ROOM = 2 * PIECE

abbrev pub PIECE_ROWS : ℕ
PIECE_ROWS = 2 * PIECES

abbrev pub PIECES_LEN : ℕ
PIECES_LEN = PIECE_ROWS * PIECE

abbrev pub STORE_LEN : ℕ
STORE_LEN = STORE_BYTES

-- ── counts that stop one past a limit ──
abbrev pub PIECES_PAST : ℕ
PIECES_PAST = PIECES + 1

abbrev pub BYTES_PAST : ℕ
BYTES_PAST = STORE_BYTES + 1

-- ── marks as bits ──
abbrev pub MARKS : ℕ
MARKS = 64

abbrev pub SOURCE_MARKS : ℕ
SOURCE_MARKS = SOURCE_BYTES / MARKS

abbrev pub STORE_MARKS : ℕ
STORE_MARKS = STORE_LEN / MARKS

-- ── a call's own tables ──
-- three rows more than the lent chunks
abbrev pub SCRATCH_ROWS : ℕ
SCRATCH_ROWS = 1 + CHUNKS + 3

abbrev pub SCRATCH_LEN : ℕ
SCRATCH_LEN = SCRATCH_ROWS * ROW

abbrev pub INSERT_PIECES_LEN : ℕ
INSERT_PIECES_LEN = (PIECE_ROWS + PIECES + 1) * PIECE

abbrev pub INSERT_STORE_LEN : ℕ
INSERT_STORE_LEN = 2 * STORE_LEN

abbrev pub TRIM_PIECES_LEN : ℕ
TRIM_PIECES_LEN = 2 * PIECES_LEN

abbrev pub TRIM_STORE_LEN : ℕ
TRIM_STORE_LEN = STORE_LEN + SOURCE_BYTES

abbrev pub UPDATE_STORE_LEN : ℕ
UPDATE_STORE_LEN = 2 * STORE_LEN

abbrev pub INDENT_PIECES_LEN : ℕ
INDENT_PIECES_LEN = (PIECE_ROWS + PIECES + CHUNKS) * PIECE

abbrev pub INDENT_STORE_LEN : ℕ
INDENT_STORE_LEN = 2 * STORE_LEN

-- small tables, for a small desk
abbrev pub SMALL_CHUNKS : ℕ
SMALL_CHUNKS = 63

abbrev pub SMALL_PIECES : ℕ
SMALL_PIECES = 64

abbrev pub SMALL_CHUNKS_LEN : ℕ
SMALL_CHUNKS_LEN = (1 + SMALL_CHUNKS) * ROW

abbrev pub SMALL_PIECES_LEN : ℕ
SMALL_PIECES_LEN = SMALL_PIECES * PIECE_ROOM

abbrev pub SMALL_STORE_LEN : ℕ
SMALL_STORE_LEN = 4096

-- ── the record of filed calls, in two lent slices of its own ──
-- the most calls, and the most bytes of their texts
abbrev pub RECORD_CALLS : ℕ
RECORD_CALLS = 200

abbrev pub RECORD_TEXT : ℕ
RECORD_TEXT = 32768

-- the most bytes of a call before its text
abbrev pub RECORD_FRONT : ℕ
RECORD_FRONT = 15

-- the answers stand behind the room of the calls, and the marks behind that of the answers, a byte each
abbrev pub RECORD_ANSWERS : ℕ
RECORD_ANSWERS = RECORD_CALLS * RECORD_FRONT + RECORD_TEXT

abbrev pub RECORD_MARKS : ℕ
RECORD_MARKS = RECORD_ANSWERS + RECORD_CALLS

-- the highest marks of an entry, in tenths of a point
abbrev pub HIGHEST_MARKS : ℕ
HIGHEST_MARKS = 100

-- the place of the word that says how many bytes the calls have
abbrev pub RECORD_USED : ℕ
RECORD_USED = 0

-- the desk before the first filed call: its chunk table and its piece table behind that word, its store behind the marks
abbrev pub KEPT_CHUNKS : ℕ
KEPT_CHUNKS = RECORD_USED + 1

abbrev pub KEPT_PIECES : ℕ
KEPT_PIECES = KEPT_CHUNKS + CHUNKS_LEN

abbrev pub KEPT_STORE : ℕ
KEPT_STORE = RECORD_MARKS + RECORD_CALLS

abbrev pub RECORD_WORDS_LEN : ℕ
RECORD_WORDS_LEN = KEPT_PIECES + PIECES_LEN

abbrev pub RECORD_BYTES_LEN : ℕ
RECORD_BYTES_LEN = KEPT_STORE + STORE_LEN
