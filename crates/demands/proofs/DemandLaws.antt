-- What reads is accepted, and what is accepted of bytes reads; the refusals of both decoders have room in the word; the word taken apart.
use Prim.Native.Nat.{ℕ}
use native.Mathlib.Omega.{arith}
use mathlib.Core.Path.{◌≡◌, refl}
use mathlib.Core.Logic.{◌⊎◌, inl, inr}
use mathlib.Core.List.{List}
use Rattle.fields.specs.Decoded.{Decoded, refused, accepted}
use Rattle.fields.specs.Numbers.{Bytes}
use Rattle.catalogue.specs.Catalogue.{Catalogue}
use Rattle.catalogue.specs.Decode.{decode_catalogue}
use Rattle.catalogue.specs.Sound.{IsRefusal}
use Rattle.catalogue.proofs.DecodeLaws.{decode_written}
use Rattle.catalogue.proofs.Exactly.{accepted_exactly as catalogue-exactly}
use Rattle.query.specs.Query.{Query}
use Rattle.query.specs.Decode.{decode_query}
use Rattle.query.proofs.Exactly.{decode_encoded, accepted_exactly as question-exactly}
use Rattle.task.specs.Input.{Input, decode_input}
use Rattle.answers.specs.Answer.{Answer, Refused, Accepted}
use Rattle.answers.specs.Word.{packed, number_of, first_of as first_result, second_of, third_of, FitsWord}
use Rattle.demands.specs.Demands.{Gives, IsCatalogue, IsQuestion, Reads, FormBroken}
use Rattle.catalogue.proofs.Refusals.{CatalogueRefusal, catalogue_refusal}
use Rattle.query.proofs.Refusals.{query_refusal}

-- CATALOGUE AND QUESTION

-- a catalogue and a question as document 01 allows are accepted
pub is_catalogue : (b : List ℕ) (C : Catalogue) → IsCatalogue b C → decode_catalogue b ≡ accepted C
is_catalogue b C (formed, written) = decode_written C formed b written

pub is_question : (C : Catalogue) (q : List ℕ) (Q : Query) → IsQuestion C q Q → decode_query C q ≡ accepted Q
is_question C q Q (formed, written) = rw written (decode_encoded C Q formed)

-- a refusal has room in the word
pub catalogue_range : (b : List ℕ) (e : ℕ) → decode_catalogue b ≡ refused e → IsRefusal e
catalogue_range b e h = go (catalogue_refusal b e h)
  where
    go : CatalogueRefusal e → IsRefusal e
    go (inl r) = omega arith
    go (inr r) = omega arith

module _ (b q : List ℕ) where
  -- the decoders accept both
  abbrev pub Decodes : Input → Type 0
  Decodes i = (decode_catalogue b ≡ accepted i.catalogue) × (decode_query i.catalogue q ≡ accepted i.query)

  pub decoded_input : (i : Input) → Decodes i → decode_input b q ≡ accepted i
  unfolding decode_input
  decoded_input i d = rw (d.0, d.1)

  pub reads_input : (i : Input) → Reads b q i → decode_input b q ≡ accepted i
  reads_input i r = decoded_input i (is_catalogue b i.catalogue r.0, is_question i.catalogue q i.query r.1)

  pub broken_input : (e : ℕ) → FormBroken b q e → decode_input b q ≡ refused e
  unfolding decode_input
  broken_input e (inl x) = rw x
  broken_input e (inr x) = rw (x.1, x.2)

  pub decoded_cases : ((i : Input) × Decodes i) ⊎ ((e : ℕ) × FormBroken b q e)
  decoded_cases = go (decode_catalogue b) refl
    where
      then : (C : Catalogue) → decode_catalogue b ≡ accepted C → (d : Decoded Query) → decode_query C q ≡ d → ((i : Input) × Decodes i) ⊎ ((e : ℕ) × FormBroken b q e)
      then C x (refused e) y = inr (e, inr (C, x, y))
      then C x (accepted Q) y = inl (record { catalogue = C; query = Q }, (x, y))

      go : (d : Decoded Catalogue) → decode_catalogue b ≡ d → ((i : Input) × Decodes i) ⊎ ((e : ℕ) × FormBroken b q e)
      go (refused e) x = inr (e, inl x)
      go (accepted C) x = then C x (decode_query C q) refl

  -- of bytes: either they read, or a form is broken
  pub input_cases : Bytes b → Bytes q → ((i : Input) × Reads b q i) ⊎ ((e : ℕ) × FormBroken b q e)
  input_cases bytes bytes' = go decoded_cases
    where
      go : ((i : Input) × Decodes i) ⊎ ((e : ℕ) × FormBroken b q e) → ((i : Input) × Reads b q i) ⊎ ((e : ℕ) × FormBroken b q e)
      go (inl (i, d)) = inl (i, ((catalogue-exactly b i.catalogue bytes).0 d.0, (question-exactly i.catalogue q i.query bytes').0 d.1))
      go (inr x) = inr x

  pub broken_range : (e : ℕ) → FormBroken b q e → IsRefusal e
  broken_range e (inl x) = catalogue_range b e x
  broken_range e (inr x) = let s = query_refusal x.0 q e x.2 in omega arith

-- THE WORD TAKEN APART

pub unpacked : (a : Answer) → FitsWord a → Gives (packed a) (number_of a) (first_result a) (second_of a) (third_of a)
unpacked (Refused e) f = omega arith
unpacked (Accepted a b c) f = omega arith
