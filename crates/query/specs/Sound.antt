-- What a caller may rely on of a member's field, beside the value that it is.
use Rattle.std.specs.Prelude.{ℕ, ◌+◌, ◌≤◌, ◌<◌, ◌≡◌, true, List}
use Rattle.fields.specs.Header.{header_size, field_end}
use Rattle.predicate.specs.Payload.{valid_payload, payload_head}
use Rattle.query.specs.declared.member.MemberField.{MemberField}
use Rattle.query.specs.declared.member.MemberField.TheVariants.{Leaf, Group}
use Rattle.query.specs.Format.{predicate_limit, depth_limit, member_cut, bytes_after_query}
use Rattle.query.specs.Decode.{payload_at}

-- "7 to 14"
abbrev pub IsRefusal : ℕ → Type 0
IsRefusal e = (member_cut ≤ e) × (e ≤ bytes_after_query)

-- the payload lies after the header and within the end; there is room for a predicate, and depth for a group
abbrev pub SoundField : (tags q : List ℕ) → (at end depth n : ℕ) → MemberField → Type 0
SoundField tags q at end depth n (Leaf start stop) =
    (start ≡ at + header_size) × (start + payload_head ≤ stop) × (stop ≤ end) × (n < predicate_limit) × (valid_payload tags (payload_at q start stop) ≡ true)
    × (stop ≡ field_end q at)
SoundField tags q at end depth n (Group tag start stop) =
    (start ≡ at + header_size) × (start < stop) × (stop ≤ end) × (depth < depth_limit)
