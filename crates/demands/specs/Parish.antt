-- Document 01's "A parish of three entries": years 1701, 1822, blank; parishes "Ash", "ASHBY", blank.
use Rattle.std.specs.Prelude.{ℕ, zero, suc, ◌-◌, List, [], ◌∷◌, ◌++◌, length, replicate}

-- a text slot: length, text, zeros to the end
abbrev pub slot : List ℕ → List ℕ
slot text = length text ∷ text ++ replicate (23 - length text) 0

abbrev pub parish : List ℕ
parish =
    (0x43 ∷ 0x00 ∷ 0x03 ∷ 0x00 ∷ 0x03 ∷ 0x02 ∷ [])
    ++ (0x4E ∷ 0x00 ∷ 0x0C ∷ 0x00 ∷ 0x00 ∷ 0x06 ∷ 0xA5 ∷ 0x00 ∷ 0x00 ∷ 0x07 ∷ 0x1E ∷ 0xFF ∷ 0xFF ∷ 0xFF ∷ 0xFF ∷ [])
    ++ (0x54 ∷ 0x00 ∷ 0x48 ∷ [])
    ++ slot (0x41 ∷ 0x73 ∷ 0x68 ∷ [])
    ++ slot (0x41 ∷ 0x53 ∷ 0x48 ∷ 0x42 ∷ 0x59 ∷ [])
    ++ slot []

-- "year 1700 to 1799", "parish beginning "ash"", "year blank"
abbrev pub year_in_century : List ℕ
year_in_century = 0x50 ∷ 0x00 ∷ 0x0A ∷ 0x00 ∷ 0x00 ∷ 0x00 ∷ 0x00 ∷ 0x06 ∷ 0xA4 ∷ 0x00 ∷ 0x00 ∷ 0x07 ∷ 0x07 ∷ []

abbrev pub parish_begins : List ℕ
parish_begins = 0x50 ∷ 0x00 ∷ 0x05 ∷ 0x01 ∷ 0x03 ∷ 0x61 ∷ 0x73 ∷ 0x68 ∷ []

abbrev pub year_blank : List ℕ
year_blank = 0x50 ∷ 0x00 ∷ 0x02 ∷ 0x00 ∷ 0x01 ∷ []

-- "year 1700 to 1799 and parish beginning "ash""
abbrev pub both : List ℕ
both = (0x41 ∷ 0x00 ∷ 0x15 ∷ []) ++ year_in_century ++ parish_begins

-- ".. or year blank"
abbrev pub question : List ℕ
question = (0x4F ∷ 0x00 ∷ 0x1D ∷ []) ++ both ++ year_blank

-- a member in so many all-of groups, one inside the other
unfoldable pub nested : ℕ → List ℕ → List ℕ
nested zero m = m
nested (suc k) m = 0x41 ∷ 0x00 ∷ length (nested k m) ∷ nested k m
