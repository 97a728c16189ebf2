-- The language of scripts: which lines are which command in an array of d dimensions.
--     Each command has one text: its words, with exactly one space between two of them.
--     A line is read as the command whose text it is.
use Rattle.std.specs.Prelude.{ℕ, ℤ, ◌^◌, ◌==◌, nat_lt, nat_le, unsigned_abs, Bool, true, ◌&&◌, List, [], ◌∷◌, ◌++◌, length, map, drop, find, slice_index_or, Option, bytes_eq, codes, decimal}
use Rattle.std.specs.Fmt.{signed_decimal}
use Rattle.std.specs.Int.{IsInRange}
use Rattle.std.specs.List.{join_with_byte, slice_split, list_all}
use Rattle.std.specs.Str.Parse.{digits_value, signed_digits_value}
use Rattle.zf_cached.specs.Commands.{Command}

-- what stands between words, between the numbers of a position or of steps, and between sizes: ` `, `,` and
-- `x`
abbrev pub space : ℕ
space = 32

abbrev pub comma : ℕ
comma = 44

abbrev pub letter_x : ℕ
letter_x = 120

-- a byte that is no digit
abbrev pub IsNoDigit : ℕ → Type 0
IsNoDigit byte = ¬ IsInRange 48 57 byte

-- numbers in decimal, with the byte between two of them
abbrev pub numbers_text : ℕ → List ℕ → List ℕ
numbers_text byte ns = join_with_byte byte (map decimal ns)

-- the word of a view: its number directly behind `@`
abbrev pub view_word : ℕ → List ℕ
view_word i = codes "@" ++ decimal i

-- the words of a command
abbrev pub words_of : Command → List (List ℕ)
words_of (Command.get p) = codes "get" ∷ numbers_text comma p ∷ []
words_of (Command.set p v) = codes "set" ∷ numbers_text comma p ∷ signed_decimal v ∷ []
words_of (Command.add p v) = codes "add" ∷ numbers_text comma p ∷ signed_decimal v ∷ []
words_of (Command.fill v) = codes "fill" ∷ signed_decimal v ∷ []
words_of Command.sum = codes "sum" ∷ []
words_of (Command.view p s t) =
    codes "view" ∷ numbers_text comma p ∷ numbers_text letter_x s ∷ numbers_text comma t ∷ []
words_of (Command.slice a i) = codes "slice" ∷ decimal a ∷ decimal i ∷ []
words_of (Command.vget p) = codes "vget" ∷ numbers_text comma p ∷ []
words_of (Command.vset p v) = codes "vset" ∷ numbers_text comma p ∷ signed_decimal v ∷ []
words_of Command.vsum = codes "vsum" ∷ []
words_of Command.flush = codes "flush" ∷ []
words_of Command.discard = codes "discard" ∷ []
words_of (Command.lines l) = codes "lines" ∷ decimal l ∷ []
words_of (Command.resize s) = codes "resize" ∷ numbers_text letter_x s ∷ []
words_of Command.stats = codes "stats" ∷ []
words_of (Command.split n l) = codes "split" ∷ decimal n ∷ decimal l ∷ []
words_of Command.join = codes "join" ∷ []
words_of (Command.pget i p) = view_word i ∷ codes "get" ∷ numbers_text comma p ∷ []
words_of (Command.pset i p v) = view_word i ∷ codes "set" ∷ numbers_text comma p ∷ signed_decimal v ∷ []
words_of (Command.padd i p v) = view_word i ∷ codes "add" ∷ numbers_text comma p ∷ signed_decimal v ∷ []
words_of (Command.pflush i) = view_word i ∷ codes "flush" ∷ []
words_of (Command.pdiscard i) = view_word i ∷ codes "discard" ∷ []
words_of (Command.pstats i) = view_word i ∷ codes "stats" ∷ []

-- its text
abbrev pub line_of : Command → List ℕ
line_of c = join_with_byte space (words_of c)

-- a number has at most 64 bits, and so has a value without its sign
abbrev pub is_number : ℕ → Bool
is_number n = nat_lt n (2 ^ 64)

abbrev pub is_value : ℤ → Bool
is_value v = is_number (unsigned_abs v)

-- one number for each of d axes
abbrev pub has_axes : ℕ → List ℕ → Bool
has_axes d ns = (length ns == d) && list_all is_number ns

-- one to four numbers
abbrev pub has_sizes : List ℕ → Bool
has_sizes ns = (nat_le 1 (length ns) && nat_le (length ns) 4) && list_all is_number ns

-- the numbers of a command are such as a line may have in d dimensions
abbrev pub is_writable : ℕ → Command → Bool
is_writable d (Command.get p) = has_axes d p
is_writable d (Command.set p v) = has_axes d p && is_value v
is_writable d (Command.add p v) = has_axes d p && is_value v
is_writable d (Command.fill v) = is_value v
is_writable d Command.sum = true
is_writable d (Command.view p s t) = has_axes d p && (has_axes d s && has_axes d t)
is_writable d (Command.slice a i) = is_number a && is_number i
is_writable d (Command.vget p) = has_axes d p
is_writable d (Command.vset p v) = has_axes d p && is_value v
is_writable d Command.vsum = true
is_writable d Command.flush = true
is_writable d Command.discard = true
is_writable d (Command.lines l) = is_number l
is_writable d (Command.resize s) = has_sizes s
is_writable d Command.stats = true
is_writable d (Command.split n l) = is_number n && is_number l
is_writable d Command.join = true
is_writable d (Command.pget i p) = is_number i && has_axes d p
is_writable d (Command.pset i p v) = is_number i && (has_axes d p && is_value v)
is_writable d (Command.padd i p v) = is_number i && (has_axes d p && is_value v)
is_writable d (Command.pflush i) = is_number i
is_writable d (Command.pdiscard i) = is_number i
is_writable d (Command.pstats i) = is_number i

-- the parts of bytes between such a byte, and what numbers the parts of a word could be
abbrev pub cut_at : ℕ → List ℕ → List (List ℕ)
cut_at byte bs = slice_split (λ b. b == byte) bs

abbrev pub numbers_in : ℕ → List ℕ → List ℕ
numbers_in byte word = map (digits_value 10) (cut_at byte word)

-- the commands that words could be: one of each kind, with what its words could say. Whether they do is not
-- asked here
unfoldable pub candidates : List (List ℕ) → List Command
candidates words =
    let first = slice_index_or words 1 [] in
    let second = slice_index_or words 2 [] in
    let third = slice_index_or words 3 [] in
    let view = digits_value 10 (drop 1 (slice_index_or words 0 [])) in
    Command.get (numbers_in comma first)
    ∷ Command.set (numbers_in comma first) (signed_digits_value 10 second)
    ∷ Command.add (numbers_in comma first) (signed_digits_value 10 second)
    ∷ Command.fill (signed_digits_value 10 first)
    ∷ Command.sum
    ∷ Command.view (numbers_in comma first) (numbers_in letter_x second) (numbers_in comma third)
    ∷ Command.slice (digits_value 10 first) (digits_value 10 second)
    ∷ Command.vget (numbers_in comma first)
    ∷ Command.vset (numbers_in comma first) (signed_digits_value 10 second)
    ∷ Command.vsum
    ∷ Command.flush
    ∷ Command.discard
    ∷ Command.lines (digits_value 10 first)
    ∷ Command.resize (numbers_in letter_x first)
    ∷ Command.stats
    ∷ Command.split (digits_value 10 first) (digits_value 10 second)
    ∷ Command.join
    ∷ Command.pget view (numbers_in comma second)
    ∷ Command.pset view (numbers_in comma second) (signed_digits_value 10 third)
    ∷ Command.padd view (numbers_in comma second) (signed_digits_value 10 third)
    ∷ Command.pflush view
    ∷ Command.pdiscard view
    ∷ Command.pstats view
    ∷ []

-- a line is the text of the command, which is writable
abbrev pub is_line : ℕ → List ℕ → Command → Bool
is_line d line c = bytes_eq (line_of c) line && is_writable d c

-- the command of a line; none where the line is the text of no writable command
unfoldable pub read_line : ℕ → List ℕ → Option Command
read_line d line = find (is_line d line) (candidates (cut_at space line))
