-- The text of document 01's register: "A parish of three entries".
use Rattle.std.specs.Prelude.{ℕ, zero, suc, ◌*◌, ◌≡◌, Bool, true, false, List, [], ◌∷◌, ◌++◌, length, take, drop}
use Rattle.bitmaps.specs.Sums.{joined}
use Rattle.fields.specs.Output.{put_front}
use Rattle.bitmaps.specs.Bitmap.{bytes_for, ones_in}
use Rattle.bitmaps.specs.Bit.{bit}
use Rattle.fields.specs.Decimal.{decimal}
use Rattle.lines.specs.Line.{line}

-- the first line, "consultation register" and byte 10
abbrev pub header : List ℕ
header = 99 ∷ 111 ∷ 110 ∷ 115 ∷ 117 ∷ 108 ∷ 116 ∷ 97 ∷ 116 ∷ 105 ∷ 111 ∷ 110 ∷ 32 ∷ 114 ∷ 101 ∷ 103 ∷ 105 ∷ 115 ∷ 116 ∷ 101 ∷ 114 ∷ 10 ∷ []

-- "found ", "entry ", "looks ", "condition ", "refused "
abbrev pub found_label : List ℕ
found_label = 102 ∷ 111 ∷ 117 ∷ 110 ∷ 100 ∷ 32 ∷ []

abbrev pub entry_label : List ℕ
entry_label = 101 ∷ 110 ∷ 116 ∷ 114 ∷ 121 ∷ 32 ∷ []

abbrev pub looks_label : List ℕ
looks_label = 108 ∷ 111 ∷ 111 ∷ 107 ∷ 115 ∷ 32 ∷ []

abbrev pub condition_label : List ℕ
condition_label = 99 ∷ 111 ∷ 110 ∷ 100 ∷ 105 ∷ 116 ∷ 105 ∷ 111 ∷ 110 ∷ 32 ∷ []

abbrev pub refused_label : List ℕ
refused_label = 114 ∷ 101 ∷ 102 ∷ 117 ∷ 115 ∷ 101 ∷ 100 ∷ 32 ∷ []

abbrev pub entry_if : (listed : Bool) (row : ℕ) → List ℕ
entry_if true row = line entry_label row
entry_if false row = []

-- "each listed entry, ascending": entry e is the bit of weight 2^(e mod 8) in byte e div 8
unfoldable pub entries : (listed : List ℕ) (rows : ℕ) → List ℕ
entries listed rows = joined (λ e. entry_if (bit listed e) e) rows

-- a condition's looks: the ones of its row of the looks table
abbrev pub looks_of : (looks : List ℕ) (size c : ℕ) → ℕ
looks_of looks size c = ones_in (take size (drop (c * size) looks))

-- between a condition's number and its looks
abbrev pub space : List ℕ
space = 32 ∷ []

unfoldable pub condition_line : (c count : ℕ) → List ℕ
condition_line c count = condition_label ++ decimal c ++ line space count

-- "each condition's number and looks"
unfoldable pub conditions : (looks : List ℕ) (size n : ℕ) → List ℕ
conditions looks size n = joined (λ c. condition_line c (looks_of looks size c)) n

-- "After the first line, fixed text: the found count; each listed entry, ascending; the look count; each condition's number and looks."
unfoldable pub accepted : (found look_count_lem rows n : ℕ) (listed looks : List ℕ) → List ℕ
accepted found look_count_lem rows n listed looks =
    header ++ line found_label found ++ entries listed rows ++ line looks_label look_count_lem ++ conditions looks (bytes_for rows) n

-- "A refusal prints the first line and `refused r`, r its number."
unfoldable pub refused : (number : ℕ) → List ℕ
refused number = header ++ line refused_label number

-- the register of a run, from its number and its two counts and the tables it wrote; "Accepted is 0"
abbrev pub register_of : (number found look_count_lem rows n : ℕ) (listed looks : List ℕ) → List ℕ
register_of zero found look_count_lem rows n listed looks = accepted found look_count_lem rows n listed looks
register_of (suc e) found look_count_lem rows n listed looks = refused (suc e)

-- a text at the front of an output, which keeps its further bytes, and the text's length
abbrev pub Printed : (text old : List ℕ) (size : ℕ) (new : List ℕ) → Type 0
Printed text old size new = (new ≡ put_front text old) × (size ≡ length text)
