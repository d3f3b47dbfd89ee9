-- All files of a target after a removal.
use Rattle.meson_calls.specs.declared.call.Role.TheVariants as role
use Rattle.meson_sources.specs.WholeExtras.{AllExtrasShrink}
use Rattle.meson_sources.proofs.Words.{All, Ok, [], ap, Bool, false, length, List, map, refl, Some, subst, sym, true, ℕ, ◌∙◌, ◌∷◌, ◌≡◌, ◌≤◌, then_ok, value}
use Rattle.meson_sources.proofs.Words.{Span, string_kind, Arguments, Expression, Nowhere, string, StringKind, Every, every-append, Call, keyword, Numbered}
use Rattle.meson_sources.proofs.Words.{the_call, IsProject, Loaded, project, once, sources_key, Placed, placed, one_of, target_functions, CallRef, Expansion}
use Rattle.meson_sources.proofs.Words.{fixed, literal_item, Mark, max_followed, Stand, hidden, items, source_marks, MayStandBetween, checked_names, distinct}
use Rattle.meson_sources.proofs.Words.{plain_trees, all_stepped, Step, trees_stand, once_was, then_was, AreSpotsOf, goes, checked_extra, extra_key, extra_marks}
use Rattle.meson_sources.proofs.Words.{removal_steps, removed_at, Spot, spots_named, AllSourcesShrink, file_names, FilesShrink}
use Rattle.meson_sources.proofs.added.Homes.{extra_once}
use Rattle.meson_sources.proofs.gone.Calls.{Fine, are_named, at_call, call_from, call_left, each_left, fine, first, first_of, literals, moved_place, named_left}
use Rattle.meson_sources.proofs.gone.Calls.{own_fine, values_stand}
use Rattle.meson_sources.proofs.gone.Held.{Holds, keyed_hold, whole_holds, Held, items_held}
use Rattle.meson_sources.proofs.gone.Losses.{EachLoses, Loses, place_left}
use Rattle.meson_sources.proofs.gone.Marks.{FirstStays, keyed_left, keys_stay, whole_left, Left, slot_gone, stand_left}
use Rattle.meson_sources.proofs.gone.Named.{named_spots, spots_apart}
use Rattle.meson_sources.proofs.gone.Spots.{AreApart}
use Rattle.meson_sources.proofs.gone.Trees.{named_stand, all_in}
use Rattle.meson_sources.proofs.met.Arguments.{Expand, keyed, list_with, whole, as_sources, as_whole, few_once}
use Rattle.meson_sources.proofs.met.Files.{FileKind, met_in, of_extras, of_sources, CallStays, FilesStay, NamedGoes, call_moved, left_answered}
use Rattle.meson_sources.proofs.met.Marks.{bare_mark, expand_with, values_of}
use Rattle.meson_sources.proofs.met.Standing.{AllStand, StringIn}
use Rattle.meson_sources.proofs.met.Targets.{files_stand}
use Rattle.meson_sources.proofs.told.FoundAgain.{Names}
use Rattle.meson_sources.proofs.told.Kept.{FirstIs}
use Rattle.meson_sources.proofs.trees.Calls.{CallIn, bare_arguments, called, target_at}
use Rattle.meson_calls.specs.declared.call.CallName.{CallName}

-- what is met of a target stands where its slots say
abbrev pub MetHolds : FileKind → Type 0
MetHolds what =
    (old : Loaded) (stand : All MayStandBetween (plain_trees old)) (c : CallRef) (t : CallIn (project old) c) (target : one_of target_functions t.name.text ≡ true)
    → Every (Holds (plain_trees old) (Fine old stand c t target) (fine old stand c t target)) (met_in what (project old) c (bare_arguments t)).marks

-- what is met after strings have gone is what was met without them
abbrev pub MetLost : FileKind → Type 0
MetLost what =
    (gone : CallRef → ℕ → Bool) (one two : Expand) (literals : (q : StringKind) (x : List ℕ) (s : Stand) (f : List (List ℕ)) → one (string tt q x) s f ≡ literal_item tt s f (value (string_kind q) x))
    (each : (e now : Expression Nowhere) (s : Stand) (f g : List (List ℕ)) → g ≡ f → slot_gone gone s.slot ≡ false → Loses gone s.place e now → Left gone (one e s f) (two now (stand_left gone s) g)) (c : CallRef) (xs ys : Arguments Nowhere)
    → FirstStays gone c 0 xs → EachLoses gone c 0 xs ys → Left gone (whole one c (what.look xs) []) (whole two (place_left gone c) (what.look ys) [])

module _ (what : FileKind) (holds : MetHolds what) (lost : MetLost what) where
  module _ (old : Loaded) (stand : All MayStandBetween (plain_trees old)) (c : CallRef) (t : CallIn (project old) c) (target : one_of target_functions t.name.text ≡ true) where
    abbrev marks : List (Mark Span)
    marks = what.marks (project old) (called t)

    all_held : Every (Held (plain_trees old) (Fine old stand c t target) (fine old stand c t target)) (items marks)
    all_held =
        let Fits = Holds (plain_trees old) (Fine old stand c t target) (fine old stand c t target) in
        items_held (plain_trees old) (Fine old stand c t target) (fine old stand c t target) marks
        (subst (Every Fits) (sym (what.are_marks (project old) c t)) (every-append Fits _ (map bare_mark (hidden (what.hide t.arguments))) (holds old stand c t target) (hidden_hold (what.hide t.arguments))))
      where
        hidden_hold : (ys : List (Numbered (Expression Span))) → Every (Holds (plain_trees old) (Fine old stand c t target) (fine old stand c t target)) (map bare_mark (hidden ys))
        hidden_hold [] = tt
        hidden_hold (y ∷ ys) = (tt, tt)

    module _ (new : Loaded) (same_names : file_names new ≡ file_names old) (names : List (List ℕ)) (found : List Spot) (of_names : AreSpotsOf (items marks) (distinct names) found) (are : Every (StringIn (plain_trees old)) found)
        (apart : AreApart found) (done : all_stepped (removal_steps found) (plain_trees old) ≡ Some (plain_trees new)) where
      pub call_then : CallStays (goes found) what old new c (moved_place found c) t
      call_then =
          let k = call_left old stand c t target new same_names names (items marks) all_held found of_names are apart done in
          let gone = goes found in
          call_moved gone what old new c (moved_place found c) t k.ys k.node (λ key. keys_stay gone key c 0 (bare_arguments t) k.ys k.each)
          (lost gone (expand_with (values_of (project old)) max_followed) (expand_with (values_of (project new)) max_followed) (literals (values_of (project old)) max_followed)
          (each_left old stand c t target new same_names names (items marks) all_held found of_names are apart done) c (bare_arguments t) k.ys
          (first old stand c t target new same_names names (items marks) all_held found of_names are apart done) k.each)

      pub named_go : Every (NamedGoes (goes found) names) (items marks)
      named_go = are_named old stand c t target new same_names names (items marks) all_held found of_names are apart done

      pub stay : length (keyed what.key 0 t.arguments) ≤ 1 → FilesStay (goes found) names what.read c (moved_place found c) (project old) (project new)
      stay few = left_answered (goes found) names what old new c (moved_place found c) t few call_then named_go

      pub named : (id : CallName) → the_call (project old) role.Target id ≡ Ok (called t) → Names (project new) id (moved_place found c) (called t).it
      named = named_left old stand c t target new same_names names (items marks) all_held found of_names are apart done

  -- ---- the law

  module _ (old new : Loaded) (is : IsProject old) (same_names : file_names new ≡ file_names old) (id : CallName) (names : List (List ℕ)) (steps : List Step) (done : all_stepped steps (plain_trees old) ≡ Some (plain_trees new)) where
    abbrev Shrinks : Placed (Call Span) → Type 0
    Shrinks c =
        the_call (project old) role.Target id ≡ Ok c → AllStand (project old) (what.marks (project old) c) → (ms : List (Mark Span)) → once what.key (keyword what.key c.it) (what.marks (project old) c) ≡ Ok ms → removed_at (spots_named ms (distinct names)) ≡ Ok steps
        → FilesShrink what.read names id c (project old) (project new)

    of_call : (c : CallRef) (t : CallIn (project old) c) → one_of target_functions t.name.text ≡ true → Shrinks (called t)
    of_call c t target found stands ms once_is gone =
        let p = project old in
        let marks = what.marks p (called t) in
        let stand = trees_stand old.files old.parsed is.parsed in
        let key = keyed what.key 0 t.arguments in
        let same = once_was what.key key marks ms once_is in
        let w = then_was (spots_named marks (distinct names)) (λ spots. Ok (removal_steps spots)) steps (ap (λ ms. removed_at (spots_named ms (distinct names))) same ∙ gone) in
        let same_steps : removal_steps w.0 ≡ steps = let e = w.2 in cc in
        let of_names = named_spots marks (distinct names) w.0 w.1 in
        let are = all_in old w.0 (named_stand p marks stands.stand (distinct names) w.0 w.1) in
        let apart = spots_apart p marks stands names w.0 w.1 in
        let made = ap (λ l. all_stepped l (plain_trees old)) same_steps ∙ done in
        let s = stay old stand c t target new same_names names w.0 of_names are apart made (few_once what.key key marks ms once_is) in
        let n = named old stand c t target new same_names names w.0 of_names are apart made id found in
        record {
          named = record { call = placed (moved_place w.0 c) n.it; is_call = n.is_call; function = n.function; first = n.first };
          before = s.before;
          were = s.were;
          after = s.after;
          are = s.are;
          left = s.left;
          unknown = s.unknown_is;
        }

    pub files_shrink : (c : Placed (Call Span)) → Shrinks c
    files_shrink c found = let t = target_at (project old) id c found in subst Shrinks t.is (of_call c.place t.it t.is_target) found

-- ---- sources

pub sources_hold : MetHolds of_sources
sources_hold old stand c t target =
    whole_holds (plain_trees old) (Fine old stand c t target) (fine old stand c t target) (values_of (project old)) (values_stand old stand c t target) c _ (at_call old stand c t target)
    (λ n. FirstIs 0 n (bare_arguments t)) (own_fine old stand c t target) (bare_arguments t) (call_from old stand c t target) (first_of (bare_arguments t) 0) []

pub sources_lost : MetLost of_sources
sources_lost gone one two texts each c xs ys kept loses = whole_left gone one two texts each c xs ys kept loses [] [] refl

pub all-sources-shrink : AllSourcesShrink
all-sources-shrink old new is same_names id c found names steps made done =
    let p = project old in
    let marks = source_marks p c in
    let key = keyword sources_key c.it in
    let a = then_was (checked_names names) (λ _. then_ok (once sources_key key marks) (λ ms. removed_at (spots_named ms (distinct names)))) steps made in
    let b = then_was (once sources_key key marks) (λ ms. removed_at (spots_named ms (distinct names))) steps a.2 in
    files_shrink of_sources sources_hold sources_lost old new is same_names id names steps done c found (files_stand old is.parsed id c found).sources b.0 b.1 b.2

-- ---- extra files

pub extras_hold : MetHolds of_extras
extras_hold old stand c t target =
    subst (λ (e : Expansion Nowhere). Every (Holds (plain_trees old) (Fine old stand c t target) (fine old stand c t target)) e.marks) (sym (as_whole (expand_with (values_of (project old)) max_followed) c (bare_arguments t)))
    (keyed_hold (plain_trees old) (Fine old stand c t target) (fine old stand c t target) (values_of (project old)) (values_stand old stand c t target) c _ (at_call old stand c t target)
    (λ n. FirstIs 0 n (bare_arguments t)) (own_fine old stand c t target) extra_key (bare_arguments t) 0 false (call_from old stand c t target) [])

pub extras_lost : MetLost of_extras
extras_lost gone one two texts each c xs ys kept loses =
    subst (λ e. Left gone e (whole two (place_left gone c) (as_sources ys) [])) (sym (as_whole one c xs))
    (subst (Left gone (list_with one c (λ n. fixed) (keyed extra_key 0 xs) [])) (sym (as_whole two (place_left gone c) ys)) (keyed_left gone one two texts each c extra_key xs ys 0 0 refl loses [] [] refl))

pub all-extras-shrink : AllExtrasShrink
all-extras-shrink old new is same_names id c found names steps made done =
    let p = project old in
    let marks = extra_marks p c in
    let a = then_was (checked_extra p c names) (λ ms. removed_at (spots_named ms (distinct names))) steps made in
    files_shrink of_extras extras_hold extras_lost old new is same_names id names steps done c found (files_stand old is.parsed id c found).extras a.0 (extra_once p c names a.0 a.1) a.2
