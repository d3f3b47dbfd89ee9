-- The words of a tree's notes stand in the bytes that the tree spans: functions, variables, names of loops, and the strings of first arguments.
use Rattle.meson_calls.proofs.Words.{cons_option, option_map, option_and_then, ◌≡◌, ℕ, ◌+◌, List, [], ◌∷◌, Option, Some, None, refl, sym, ap, ◌∙◌, subst, map}
use Rattle.meson_calls.proofs.Words.{value, Span, string_kind, IsSpanned, texts_of_name, texts_of_expression, texts_of_listing, texts_of_arguments, Name}
use Rattle.meson_calls.proofs.Words.{Expression, string, call, Listing, listing, plain, named, pair, Arguments, no_arguments, argument, assign, iteration}
use Rattle.meson_calls.proofs.Words.{text_at, StringKind, Every, Call, literal_of, first_literal, call_with, Note, a_call, an_assignment, a_loop, note_of}
use Rattle.meson_calls.proofs.Words.{noted, Part, parts_of_file, Placed, placed, CallRef}
use Rattle.meson_syntax.specs.Tree.{File}
use Rattle.meson_calls.specs.Parts.{an_expression, a_statement}
use Rattle.meson_calls.proofs.GoodLiterals.{first_from}
use Rattle.meson_calls.proofs.Spelled.{IsPart}
use Rattle.meson_calls.proofs.StandingParts.{PartsStand, texts_of_part, parts_stand}

module _ (bytes : List ℕ) where
  -- a string that stands in the bytes has the value
  pub record IsValue (y : List ℕ) : Type 0 where
    pub kind : StringKind
    pub place : Span
    pub is : value (string_kind kind) (text_at bytes place) ≡ Some y

  pub record CallStands (c : Call Span) : Type 0 where
    pub function : IsPart bytes c.function
    pub first : (y : List ℕ) → first_literal c ≡ Some y → IsValue y

  abbrev pub NamesStand : List (Name Span) → Type 0
  NamesStand = Every (λ name. IsPart bytes name.text)

  abbrev pub NoteStands : Note Span → Type 0
  NoteStands (a_call c) = CallStands c
  NoteStands (an_assignment x sets e) = IsPart bytes x
  NoteStands (a_loop xs) = NamesStand xs

  abbrev pub NotesStand : List (Placed (Note Span)) → Type 0
  NotesStand = Every (λ n. NoteStands n.it)

  here : (s : Span) → IsPart bytes (text_at bytes s)
  here s = record { place = s; is = refl }

  -- ---- the first argument of a call

  first_read : (n : ℕ) (list : Arguments Span) → first_from n (texts_of_arguments bytes list) ≡ option_map (texts_of_expression bytes) (first_from n list)
  first_read n no_arguments = refl
  first_read n (argument (plain e) more) = refl
  first_read n (argument (named s x e) more) = first_read (n + 1) more
  first_read n (argument (pair s e f) more) = first_read (n + 1) more

  value_of : (o : Option (Expression Span)) (y : List ℕ) → option_and_then literal_of (option_map (texts_of_expression bytes) o) ≡ Some y → IsValue y
  value_of (Some (string s q x)) y is = record { kind = q; place = s; is = is }
  value_of None y is = absurd cc
  value_of (Some e) y is = absurd cc

  first_value : (f : List ℕ) (l : Listing Span) (y : List ℕ) → first_literal (call_with f (texts_of_listing bytes l)) ≡ Some y → IsValue y
  first_value f (listing s trailing list) y is = value_of (first_from 0 list) y (sym (ap (option_and_then literal_of) (first_read 0 list)) ∙ is)

  -- ---- notes of parts

  names_stand : (xs : List (Name Span)) → NamesStand (map (texts_of_name bytes) xs)
  names_stand [] = tt
  names_stand (x ∷ xs) = (here x.place, names_stand xs)

  one_more : (x : Part Span) (p : CallRef) (ns : List (Placed (Note Span))) → NotesStand ns → NotesStand (cons_option (option_map (placed p) (note_of (texts_of_part bytes x))) ns)
  one_more (an_expression (call s x l)) p ns more = (record { function = here x.place; first = first_value (text_at bytes x.place) l }, more)
  one_more (an_expression e) p ns more = more
  one_more (a_statement (assign s x a e)) p ns more = (here x.place, more)
  one_more (a_statement (iteration s xs e b)) p ns more = (names_stand xs, more)
  one_more (a_statement s) p ns more = more

  all_noted : (ps : List (Placed (Part Span))) → PartsStand bytes ps → NotesStand (noted ps)
  all_noted [] all = tt
  all_noted (q ∷ ps) all =
      subst (λ y. NotesStand (cons_option (option_map (placed q.place) (note_of y)) (noted ps))) (sym all.0.is) (one_more all.0.part q.place (noted ps) (all_noted ps all.1))

pub notes_stand : (n : ℕ) (bytes : List ℕ) (f : File Span) → IsSpanned bytes f → NotesStand bytes (noted (parts_of_file n f))
notes_stand n bytes f spanned = all_noted bytes (parts_of_file n f) (parts_stand n bytes f spanned)
