-- A file in whose bytes the word stands nowhere enters no file.
use Rattle.std.proofs.Common.{◌≡◌, ℕ, List, [], ◌∷◌, ◌++◌, Bool, Option, Some, None, refl, sym, ap, ◌∙◌, subst}
use Rattle.std.specs.Prelude.{false, codes, if◌then◌else◌, is_some, option_map}
use Rattle.std.specs.List.{cons_option, flat_map}
use Rattle.memchr.specs.Find.{FindsNeedle}
use Rattle.meson_lex.specs.declared.kinds.Span.{Span}
use Rattle.meson_syntax.specs.Reads.{IsSpanned}
use Rattle.meson_syntax.specs.Texts.{texts_of_listing}
use Rattle.meson_syntax.specs.Tree.{call}
use Rattle.meson_syntax.specs.View.{text_at}
use Rattle.meson_syntax.proofs.parsing.Steps.{some-injective}
use Rattle.meson_calls.specs.declared.call.CallRef.{CallRef}
use Rattle.meson_calls.specs.declared.call.Reading.{Reading}
use Rattle.meson_calls.specs.Calls.{Call, all_chosen, part_call}
use Rattle.meson_calls.specs.Parts.{Part, an_expression, parts_of_file}
use Rattle.meson_calls.specs.Project.{BuildFile, Placed, placed}
use Rattle.meson_calls.specs.Spelling.{HasNone}
use Rattle.meson_calls.proofs.Spelled.{differs, found_or_none}
use Rattle.meson_calls.proofs.StandingParts.{PartsStand, parts_stand, texts_of_part}
use Rattle.meson_entering.specs.Entering.{HasNoSubdir, entered_at, files_entered, files_meant}

pub not_found : (bytes needle : List ℕ) (place : Option ℕ) (is_there : Bool) → FindsNeedle bytes needle 0 place → needle ≡ codes "subdir" → is_there ≡ is_some place → is_there ≡ false → HasNoSubdir bytes
not_found bytes needle place is_there finds same is absent = subst (λ word. HasNone word bytes) same (found_or_none bytes needle place is_there finds is absent)

module _ (reading : Reading) (f : BuildFile Span) (bytes : List ℕ) (nowhere : HasNoSubdir bytes) where
  none_of : (x : Part Span) (place : CallRef) (c : Call Span) → part_call (texts_of_part bytes x) ≡ Some c → entered_at reading f (placed place c) ≡ []
  none_of (an_expression (call s x l)) place c same =
      let d : Call Span = record { function = text_at bytes x.place; arguments = texts_of_listing bytes l } in
      let other = differs (codes "subdir") bytes d.function nowhere (record { place = x.place; is = refl }) in
      subst (λ (q : Call Span). entered_at reading f (placed place q) ≡ []) (some-injective d c same) (ap (λ b. if b then files_meant reading f place.path.steps d else []) other)
  none_of x place c same = absurd cc

  enters_none : (ps : List (Placed (Part Span))) → PartsStand bytes ps → flat_map (entered_at reading f) (all_chosen part_call ps) ≡ []
  enters_none [] all = refl
  enters_none (x ∷ ps) all = go (part_call x.it) (λ c same. none_of all.0.part x.place c (sym (ap part_call all.0.is) ∙ same)) (enters_none ps all.1)
    where
      go : (o : Option (Call Span)) → ((c : Call Span) → o ≡ Some c → entered_at reading f (placed x.place c) ≡ []) → flat_map (entered_at reading f) (all_chosen part_call ps) ≡ []
          → flat_map (entered_at reading f) (cons_option (option_map (placed x.place) o) (all_chosen part_call ps)) ≡ []
      go None none more = more
      go (Some c) none more = ap (λ ts. ts ++ flat_map (entered_at reading f) (all_chosen part_call ps)) (none c refl) ∙ more

pub no_subdirs : (reading : Reading) (f : BuildFile Span) (bytes : List ℕ) → IsSpanned bytes f.tree → HasNoSubdir bytes → files_entered reading f ≡ []
no_subdirs reading f bytes spanned nowhere = enters_none reading f bytes nowhere (parts_of_file 0 f.tree) (parts_stand 0 bytes f.tree spanned)
