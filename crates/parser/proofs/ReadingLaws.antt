-- A text read from place to place: each step of the code is a step of the machine.
use Prim.Native.Nat.{ℕ, zero, suc, ◌+◌, ◌-◌, ◌*◌, ◌≤◌, ◌<◌}
use native.Mathlib.Omega.{arith}
use mathlib.Core.Path.{◌≡◌, refl, sym, ap, ◌∙◌, subst}
use mathlib.Core.Bool.{Bool, true, false}
use mathlib.Core.List.{List, [], ◌∷◌, ◌++◌, append-nil}
use lib.Dec.{leb}
use borrow.Author.Tests.{leb-true, leb-false}
use lib.ListN.{length, get_or, drop, length-append, length-drop}
use Rattle.fields.specs.Numbers.{number_at, bytes_of}
use Rattle.fields.specs.Header.{header_of, field_of}
use Rattle.fields.specs.Output.{Wrote, Front}
use Rattle.fields.proofs.Laws.{length_bytes}
use Rattle.fields.proofs.OutputLaws.{front_then, front_again, front_size_lem}
use Rattle.fields.proofs.FieldLaws.{field_length}
use Rattle.query.specs.Format.{predicate_tag}
use Rattle.query.specs.Encode.{group_tag}
use Rattle.syntax.specs.Spelling.{group_word, closing, comma, spell_payload}
use Rattle.syntax.specs.Parsed.{wrong, absent, stripped, strip}
use Rattle.syntax.specs.Conditions.{condition_ahead}
use Rattle.syntax.specs.Machine.{Typed, misspelled, Frame, opened, join_to, closed_with, start, after, question_of}
use Rattle.syntax.proofs.ParsedLaws.{strip_sound}
use Rattle.syntax.proofs.Steps.{start_group, start_condition, start_wrong, after_comma, after_closing, after_other, after_nothing, after_whole, after_more}
use Rattle.syntax.proofs.ConditionLaws.{condition_sound, condition_short}
use Rattle.std.proofs.lemmas.List.{drop_more, drop_all}
use Rattle.lexer.specs.Lexed.{WordTo}
use Rattle.operands.specs.Reading.{HasRoom}
use Rattle.conditions.specs.Reading.{ConditionTo}
use Rattle.parser.specs.declared.groups.Place.{Place}
use Rattle.parser.specs.Open.{flat, open_at}
use Rattle.parser.specs.Reading.{Fits, Expecting, Behind, NoGroup, QuestionTo}
use Rattle.parser.proofs.OpenLaws.{flat_opened, flat_joined, flat_cut, flat_closed, none_open, some_open, open_first, open_inside, open_place, enclosing_read, members_length}

abbrev pub place : (at end innermost : ℕ) → Place
place at end i = record { at = at; end = end; innermost = i }

-- at the front of the text a member is expected, and no group is open
pub expecting_first : (tags text out : List ℕ) → Expecting (question_of tags text) tags text (place 0 0 0) out
unfolding question_of flat
expecting_first tags text out = record {
  frames = [];
  standing = record { front = record { begins = refl; inside = omega arith }; opens = refl; inside = omega arith; room = omega arith };
  steps = suc (length text);
  enough = omega arith;
  gives = refl;
}

-- a comma that stands there is found
comma_there : (text : List ℕ) (at : ℕ) → at < length text → get_or text at 0 ≡ comma → strip (comma ∷ []) (drop at text) ≡ absent → ⊥
unfolding strip
comma_there text at l c h = let z : stripped (drop (at + 1) text) ≡ absent = rw (drop_more text at 0 l, c) at h in let w : ◌≡◌ {A = ℕ} 0 1 = cc in absurd (omega arith)

-- how long the word is that opens a group
pub group_size : (k : Bool) → length (group_word k) ≡ 4
group_size true = refl
group_size false = refl

-- a step is left
some_step : (steps : ℕ) {at size : ℕ} → at ≤ size → size < at + steps → (j : ℕ) × (steps ≡ suc j)
some_step zero l m = absurd (omega arith)
some_step (suc j) l m = (j, refl)

-- WHERE A MEMBER IS EXPECTED
module _ {whole : Typed} {tags text : List ℕ} {here : Place} {out : List ℕ} (E : Expecting whole tags text here out) where
  -- the steps behind the next one, and what the next one gives
  left : (j : ℕ) × (E.steps ≡ suc j)
  left = some_step E.steps E.standing.inside E.enough

  next_gives : whole ≡ start (suc left.0) tags E.frames (drop here.at text)
  next_gives = E.gives ∙ ap (λ (n : ℕ). start n tags E.frames (drop here.at text)) left.1

  -- a group begins
  pub group_opened : (k : Bool) {behind next : ℕ} {new : List ℕ} → Fits text out → WordTo text here.at (group_word k) behind
      → Wrote here.end (header_of (group_tag k) here.innermost) out next new
      → Expecting whole tags text (place behind next (here.end + 1)) new
  group_opened k {behind} {next} {new} fits W w =
      let s = E.standing in
      let z : next ≡ here.end + 3 = omega (arith, w.place, length_bytes 2 here.innermost) in
      let b : behind ≡ here.at + 4 = omega (arith, W.behind, group_size k) in
      let front : Front ((flat E.frames ++ []) ++ header_of (group_tag k) (open_at E.frames)) next new =
      rw (← s.opens) (front_then s.front w (omega (arith, s.room, fits, W.inside))) in
      record {
        frames = opened k E.frames;
        standing = record {
          front = subst (λ (x : List ℕ). Front x next new) (flat_opened k E.frames) front;
          opens = omega (arith, front_size_lem s.front, ap length (append-nil (flat E.frames)), open_first (record { settling = k; done = [] }) E.frames);
          inside = W.inside;
          room = omega (arith, s.room);
        };
        steps = left.0;
        enough = omega (arith, E.enough, left.1);
        gives = next_gives
            ∙ ap (start (suc left.0) tags E.frames) (strip_sound (group_word k) (drop here.at text) (drop behind text) W.gives)
            ∙ start_group tags left.0 k E.frames (drop behind text);
      }

  pub condition_misspelled : NoGroup text here.at → condition_ahead tags (drop here.at text) ≡ wrong → whole ≡ misspelled
  condition_misspelled (a, b) e = next_gives ∙ start_wrong tags left.0 E.frames (drop here.at text) a b e

  -- room for a condition
  pub expecting_room : Fits text out → HasRoom text here.at out (here.end + 5)
  expecting_room fits = (E.standing.inside, omega (arith, E.standing.room, E.standing.inside, fits))

  -- a condition stands there
  module _ {next stop : ℕ} {new : List ℕ} (C : ConditionTo text here.at (condition_ahead tags (drop here.at text)) here.end out next stop new) where
    -- its field takes at most one and a half times the bytes of its spelling
    condition_room_lem : 2 * stop ≤ 3 * next
    condition_room_lem =
        let p : List ℕ = C.payload in
        let sound = condition_sound tags (drop here.at text) p (drop next text) C.read.gives in
        let short = condition_short tags p sound.0 in
        let spelled : length (drop here.at text) ≡ length (spell_payload p) + length (drop next text) =
        ap length sound.1 ∙ length-append (spell_payload p) (drop next text) in
        omega (
          arith,
          E.standing.room,
          E.standing.inside,
          C.read.past,
          C.read.inside,
          C.wrote.place,
          field_length predicate_tag p,
          length-drop here.at text,
          length-drop next text,
        )

    pub condition_behind : Fits text out → NoGroup text here.at → Behind whole tags text (place next stop here.innermost) new
    condition_behind fits (a, b) =
        let s = E.standing in
        let p : List ℕ = C.payload in
        record {
          frames = E.frames;
          member = field_of predicate_tag p;
          standing = record {
            front = subst (λ (x : List ℕ). Front (x ++ field_of predicate_tag p) stop new) (append-nil (flat E.frames))
                (front_then s.front C.wrote (omega (arith, fits, C.read.inside, condition_room_lem)));
            opens = s.opens;
            inside = C.read.inside;
            room = condition_room_lem;
          };
          steps = left.0;
          enough = omega (arith, E.enough, left.1, C.read.past);
          gives = next_gives ∙ start_condition tags left.0 E.frames (drop here.at text) p (drop next text) a b C.read.gives;
        }

-- BEHIND A MEMBER
module _ {whole : Typed} {tags text : List ℕ} {here : Place} {out : List ℕ} (M : Behind whole tags text here out) where
  behind_left : (j : ℕ) × (M.steps ≡ suc j)
  behind_left = some_step M.steps M.standing.inside M.enough

  behind_gives : (s : List Frame) → M.frames ≡ s → whole ≡ after (suc behind_left.0) tags M.member s (drop here.at text)
  behind_gives s e =
      M.gives
      ∙ ap (λ (n : ℕ). after n tags M.member M.frames (drop here.at text)) behind_left.1
      ∙ ap (λ (r : List Frame). after (suc behind_left.0) tags M.member r (drop here.at text)) e

  -- no group is open: the whole is read, or the text goes on
  module _ (closed : here.innermost ≡ 0) where
    nothing_open : M.frames ≡ []
    nothing_open = none_open M.frames (sym M.standing.opens ∙ closed)

    pub whole_read : here.at ≡ length text → QuestionTo whole here.end out
    unfolding flat
    whole_read e = record {
      bytes = M.member;
      gives = behind_gives [] nothing_open
          ∙ ap (after (suc behind_left.0) tags M.member []) (drop_all here.at text (omega arith))
          ∙ after_whole tags behind_left.0 M.member;
      front = rw nothing_open at M.standing.front;
    }

    pub text_goes_on : (here.at ≡ length text → ⊥) → whole ≡ misspelled
    text_goes_on n =
        behind_gives [] nothing_open
        ∙ ap (after (suc behind_left.0) tags M.member []) (drop_more text here.at 0 (omega (arith, M.standing.inside, n)))
        ∙ after_more tags behind_left.0 M.member (get_or text here.at 0) (drop (here.at + 1) text)

  -- a group is open
  module _ (still : here.innermost ≡ 0 → ⊥) where
    innermost : (f : Frame) × (s : List Frame) × (M.frames ≡ f ∷ s)
    innermost = some_open M.frames (λ e. still (M.standing.opens ∙ e))

    open_gives : whole ≡ after (suc behind_left.0) tags M.member (innermost.0 ∷ innermost.1) (drop here.at text)
    open_gives = behind_gives (innermost.0 ∷ innermost.1) innermost.2

    open_front : Front (flat (innermost.0 ∷ innermost.1) ++ M.member) here.end out
    open_front = subst (λ (s : List Frame). Front (flat s ++ M.member) here.end out) innermost.2 M.standing.front

    open_opens : here.innermost ≡ open_at (innermost.0 ∷ innermost.1)
    open_opens = M.standing.opens ∙ ap open_at innermost.2

    -- a comma: another member is expected
    pub comma_read : {behind : ℕ} → WordTo text here.at (comma ∷ []) behind → Expecting whole tags text (place behind here.end here.innermost) out
    comma_read {behind} W =
        let f : Frame = innermost.0 in
        let s : List Frame = innermost.1 in
        record {
          frames = join_to f M.member ∷ s;
          standing = record {
            front = subst (λ (x : List ℕ). Front x here.end out) (flat_joined f s M.member) open_front;
            opens = open_opens ∙ open_first f s ∙ sym (open_first (join_to f M.member) s);
            inside = W.inside;
            room = omega (arith, M.standing.room, W.behind);
          };
          steps = behind_left.0;
          enough = omega (arith, M.enough, behind_left.1, W.behind);
          gives = open_gives
              ∙ ap (after (suc behind_left.0) tags M.member (f ∷ s)) (strip_sound (comma ∷ []) (drop here.at text) (drop behind text) W.gives)
              ∙ after_comma tags behind_left.0 M.member f s (drop behind text);
        }

    -- neither a comma nor the group's end
    pub no_comma : strip (comma ∷ []) (drop here.at text) ≡ absent → (here.at < length text → get_or text here.at 0 ≡ closing → ⊥) → whole ≡ misspelled
    no_comma absent-there n = go (leb (length text) here.at) refl
      where
        go : (b : Bool) → leb (length text) here.at ≡ b → whole ≡ misspelled
        go true e =
            open_gives
            ∙ ap (after (suc behind_left.0) tags M.member (innermost.0 ∷ innermost.1)) (drop_all here.at text (leb-true (length text) here.at e))
            ∙ after_nothing tags behind_left.0 M.member innermost.0 innermost.1
        go false e =
            let l : here.at < length text = leb-false (length text) here.at e in
            open_gives
            ∙ ap (after (suc behind_left.0) tags M.member (innermost.0 ∷ innermost.1)) (drop_more text here.at 0 l)
            ∙ after_other tags behind_left.0 M.member innermost.0 innermost.1 (get_or text here.at 0) (drop (here.at + 1) text)
            (λ c. comma_there text here.at l c absent-there) (n l)

    -- the group's end: what is read at its length's place, and the length written there
    module _ (fits : Fits text out) where
      enclosing_small : open_at innermost.1 < 65536
      enclosing_small =
          omega (
            arith,
            open_inside innermost.1,
            open_first innermost.0 innermost.1,
            open_opens,
            members_length innermost.0 innermost.1 M.member open_front open_opens,
            M.standing.room,
            M.standing.inside,
            fits,
          )

      pub enclosing_place : (here.innermost + 2 ≤ here.end) × (here.end ≤ length out)
      enclosing_place = (omega (arith, members_length innermost.0 innermost.1 M.member open_front open_opens), open_front.inside)

      pub group_closed : {outer r : ℕ} {new : List ℕ} → here.at < length text → get_or text here.at 0 ≡ closing → outer ≡ number_at out here.innermost 2
          → Wrote here.innermost (bytes_of 2 (here.end - (here.innermost + 2))) out r new
          → Behind whole tags text (place (here.at + 1) here.end outer) new
      group_closed {outer} {r} {new} l c o w =
          let f : Frame = innermost.0 in
          let s : List Frame = innermost.1 in
          let m : List ℕ = M.member in
          let n : here.end - (here.innermost + 2) ≡ length (f.done ++ m) = omega (arith, members_length f s m open_front open_opens) in
          let a : List ℕ = flat s ++ (group_tag f.settling ∷ []) in
          let cut : Front (a ++ (bytes_of 2 (open_at s) ++ (f.done ++ m))) here.end out = subst (λ (x : List ℕ). Front x here.end out) (flat_cut f s m) open_front in
          record {
            frames = s;
            member = closed_with f m;
            standing = record {
              front = subst (λ (x : List ℕ). Front x here.end new) (flat_closed f s m)
                  (front_again a (bytes_of 2 (open_at s)) (f.done ++ m) (length_bytes 2 (length (f.done ++ m)) ∙ sym (length_bytes 2 (open_at s)))
                  (open_opens ∙ open_place f s) cut (rw n at w));
              opens = o ∙ enclosing_read f s m open_front open_opens enclosing_small;
              inside = omega arith;
              room = omega (arith, M.standing.room);
            };
            steps = behind_left.0;
            enough = omega (arith, M.enough, behind_left.1);
            gives = open_gives
                ∙ ap (after (suc behind_left.0) tags m (f ∷ s)) (drop_more text here.at 0 l ∙ ap (λ (x : ℕ). x ∷ drop (here.at + 1) text) c)
                ∙ after_closing tags behind_left.0 m f s (drop (here.at + 1) text);
          }
