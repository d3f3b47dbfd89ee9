-- Names of files of a target go in turn.
use Rattle.meson_calls.specs.declared.call.Role.TheVariants as role
use Rattle.meson_sources.specs.InTurn.{ExtrasGoInTurn, SourcesGoInTurn}
use Rattle.meson_sources.proofs.Words.{All, Ok, Result, [], ap, append-nil, ap₂, arith, false, length, List, map, refl, Some, subst, sym, true, ℕ, ◌++◌, ◌∙◌}
use Rattle.meson_sources.proofs.Words.{◌∷◌, ◌≡◌, then_ok, Span, some-injective, Every, Call, call_of, keyword, the_call, IsProject, Loaded, project, kwargs_key}
use Rattle.meson_sources.proofs.Words.{not_hidden, once, sources_key, expression_at, Placed, placed, Project, one_of, target_functions, CallRef, Refusal}
use Rattle.meson_sources.proofs.Words.{once_few, Mark, items, opaque_count, source_marks, MayStandBetween, checked_names, distinct, plain_trees, all_stepped}
use Rattle.meson_sources.proofs.Words.{Step, trees_stand, once_was, then_was, AreSpotsOf, goes, checked_extra, extra_key, extra_marks, items_of, removal_steps}
use Rattle.meson_sources.proofs.Words.{removed_at, Spot, spot_without, spots_by, spots_named, file_names}
use Rattle.meson_sources.proofs.ShrunkFiles.{MetHolds, MetLost, call_then, extras_hold, extras_lost, named, named_go, sources_hold, sources_lost}
use Rattle.meson_sources.proofs.added.Homes.{checked_marks}
use Rattle.meson_sources.proofs.gone.Calls.{moved_place}
use Rattle.meson_sources.proofs.gone.Held.{StaysOf, named_spots_left}
use Rattle.meson_sources.proofs.gone.Named.{distinct_named, every_weaker, named_spots, distinct_others, not_name, spots_apart}
use Rattle.meson_sources.proofs.gone.Spots.{AreApart}
use Rattle.meson_sources.proofs.gone.Trees.{removals_join, named_stand, all_in}
use Rattle.meson_sources.proofs.gone.Twice.{left_without}
use Rattle.meson_sources.proofs.met.Arguments.{few_once}
use Rattle.meson_sources.proofs.met.Files.{FileKind, of_extras, of_sources, CallStays, NamedGoes}
use Rattle.meson_sources.proofs.met.Marks.{contents_spots}
use Rattle.meson_sources.proofs.met.Standing.{StringIn, AllStand}
use Rattle.meson_sources.proofs.met.Targets.{files_stand}
use Rattle.meson_sources.proofs.trees.Calls.{CallIn, called, target_at}
use Rattle.meson_calls.specs.declared.call.CallName.{CallName}

-- ---- one name before others

module _ (marks : List (Mark Span)) (name : List ℕ) (more : List (List ℕ)) where
  pub record OthersFound (here every : List Spot) : Type 0 where
    pub later : List Spot
    pub is : spots_named marks more ≡ Ok later
    pub all : here ++ later ≡ every

  others_found : (here every : List Spot) → spots_named marks (name ∷ []) ≡ Ok here → spots_named marks (name ∷ more) ≡ Ok every → OthersFound here every
  others_found here every one all =
      let by = spots_by (opaque_count marks) (items_of name marks) in
      let a = then_was by (λ first. Ok (first ++ [])) here one in
      let b = then_was by (λ first. then_ok (spots_named marks more) (λ later. Ok (first ++ later))) every all in
      let c = then_was (spots_named marks more) (λ later. Ok (b.0 ++ later)) every b.2 in
      let same : a.0 ≡ b.0 = let both : ◌≡◌ {A = Result (List Spot) Refusal} (Ok a.0) (Ok b.0) = sym a.1 ∙ b.1 in cc in
      let here_is : a.0 ++ [] ≡ here = let e = a.2 in cc in
      let every_is : b.0 ++ c.0 ≡ every = let e = c.2 in cc in
      record { later = c.0; is = c.1; all = ap (λ l. l ++ c.0) (sym here_is ∙ append-nil a.0 ∙ same) ∙ every_is }

-- ---- the call afterwards

same_call : (p : Project Span) (c d : CallRef) (t : CallIn p c) (u : CallIn p d) → c ≡ d → called t ≡ called u
same_call p c d t u same =
    let both = some-injective _ _ (sym t.at ∙ ap (expression_at p) same ∙ u.at) in
    let calls_same : (called t).it ≡ (called u).it = some-injective _ _ (ap call_of both) in
    ap₂ (λ e (k : Call Span). placed e k) same calls_same

-- what removes the others from the project that the first leaves
pub record RestRemoved (what : FileKind) (p q : Project Span) (c d : Placed (Call Span)) (more : List (List ℕ)) (first all : List Step) : Type 0 where
  pub keys : (key : List ℕ) → length (keyword key d.it) ≡ length (keyword key c.it)
  pub steps : List Step
  pub are : removed_at (spots_named (what.marks q d) (distinct more)) ≡ Ok steps
  pub all_are : all ≡ first ++ steps

-- the files of a target that its id names stand, and none is met twice
abbrev pub FilesThere : FileKind → Loaded → Placed (Call Span) → Type 0
FilesThere what l c = AllStand (project l) (what.marks (project l) c)

module _ (what : FileKind) (holds : MetHolds what) (lost : MetLost what) where
  module _ (old mid : Loaded) (is : IsProject old) (is_mid : IsProject mid) (same_names : file_names mid ≡ file_names old) (id : CallName) (d : Placed (Call Span)) (found_mid : the_call (project mid) role.Target id ≡ Ok d)
      (there_mid : FilesThere what mid d) (name : List ℕ) (more : List (List ℕ)) (other : one_of more name ≡ false) (first all : List Step) (done : all_stepped first (plain_trees old) ≡ Some (plain_trees mid)) where
    abbrev InTurn : Placed (Call Span) → Type 0
    InTurn c =
        FilesThere what old c → removed_at (spots_named (what.marks (project old) c) (name ∷ [])) ≡ Ok first → removed_at (spots_named (what.marks (project old) c) (distinct (name ∷ more))) ≡ Ok all
        → RestRemoved what (project old) (project mid) c d more first all

    module _ (c : CallRef) (t : CallIn (project old) c) (target : one_of target_functions t.name.text ≡ true) (found : the_call (project old) role.Target id ≡ Ok (called t)) where
      abbrev marks : List (Mark Span)
      marks = what.marks (project old) (called t)

      abbrev may_stand : All MayStandBetween (plain_trees old)
      may_stand = trees_stand old.files old.parsed is.parsed

      module _ (here : List Spot) (here_is : spots_named marks (name ∷ []) ≡ Ok here) (are : Every (StringIn (plain_trees old)) here) (apart : AreApart here) (made : all_stepped (removal_steps here) (plain_trees old) ≡ Some (plain_trees mid)) where
        abbrev of_name : AreSpotsOf (items marks) (name ∷ []) here
        of_name = named_spots marks (name ∷ []) here here_is

        abbrev then_there : CallStays (goes here) what old mid c (moved_place here c) t
        then_there = call_then what holds lost old may_stand c t target mid same_names (name ∷ []) here of_name are apart made

        others_stay : Every (StaysOf (goes here) (distinct more)) (items marks)
        others_stay =
            every_weaker (NamedGoes (goes here) (name ∷ [])) (StaysOf (goes here) (distinct more)) (λ i gone named_more. gone ∙ not_name name more other i.text (distinct_named i.text more named_more)) (items marks)
            (named_go what holds lost old may_stand c t target mid same_names (name ∷ []) here of_name are apart made)

        is_call : called then_there.it ≡ d
        is_call =
            let n = named what holds lost old may_stand c t target mid same_names (name ∷ []) here of_name are apart made id found in
            let m = target_at (project mid) id d found_mid in
            let same : placed (moved_place here c) n.it ≡ d = let both : ◌≡◌ {A = Result (Placed (Call Span)) Refusal} (Ok (placed (moved_place here c) n.it)) (Ok d) = sym n.is_call ∙ found_mid in cc in
            same_call (project mid) (moved_place here c) d.place then_there.it m.it (ap (λ (e : Placed (Call Span)). e.place) same) ∙ m.is

        keys_are : (key : List ℕ) → length (keyword key d.it) ≡ length (keyword key (called t).it)
        keys_are key = ap (λ (e : Placed (Call Span)). length (keyword key e.it)) (sym is_call) ∙ then_there.keys key

        rest_are : (later : List Spot) → spots_named marks (distinct more) ≡ Ok later → spots_named (what.marks (project mid) d) (distinct more) ≡ Ok (map (spot_without here) later)
        rest_are later later_is =
            ap (λ (e : Placed (Call Span)). spots_named (what.marks (project mid) e) (distinct more)) (sym is_call) ∙ sym (contents_spots (what.marks (project mid) (called then_there.it)) (distinct more))
            ∙ ap (λ ms. spots_named ms (distinct more)) then_there.marks ∙ named_spots_left (goes here) marks (distinct more) others_stay later later_is
            ∙ ap (λ f. Ok (map f later)) (λ i s. (left_without here apart s) i)

      abbrev removed_is : List Spot → Result (List Step) Refusal
      removed_is spots = Ok (removal_steps spots)

      names_in_turn_of : InTurn (called t)
      names_in_turn_of there one made_all =
          let trees = plain_trees old in
          let w = then_was (spots_named marks (name ∷ [])) removed_is first one in
          let v = then_was (spots_named marks (distinct (name ∷ more))) removed_is all made_all in
          let o = others_found marks name (distinct more) w.0 v.0 w.1 (ap (spots_named marks) (sym (distinct_others name more other)) ∙ v.1) in
          let apart = spots_apart (project old) marks there (name ∷ []) w.0 w.1 in
          let apart_all = subst AreApart (sym o.all) (spots_apart (project old) marks there (name ∷ more) v.0 v.1) in
          let are = all_in old w.0 (named_stand (project old) marks there.stand (name ∷ []) w.0 w.1) in
          let are_all = subst (Every (StringIn trees)) (sym o.all) (all_in old v.0 (named_stand (project old) marks there.stand (distinct (name ∷ more)) v.0 v.1)) in
          let first_is : removal_steps w.0 ≡ first = let e = w.2 in cc in
          let all_is : removal_steps v.0 ≡ all = let e = v.2 in cc in
          let made = ap (λ l. all_stepped l trees) first_is ∙ done in
          let rest = map (spot_without w.0) o.later in
          let rest_found = rest_are w.0 w.1 are apart made o.later o.is in
          record {
            keys = keys_are w.0 w.1 are apart made;
            steps = removal_steps rest;
            are = ap (λ r. then_ok r removed_is) rest_found;
            all_are =
                sym all_is ∙ ap removal_steps (sym o.all) ∙ removals_join trees may_stand w.0 o.later apart are_all apart_all
                ∙ ap (λ l. l ++ removal_steps rest) first_is;
          }

    pub names_in_turn : (c : Placed (Call Span)) → the_call (project old) role.Target id ≡ Ok c → InTurn c
    names_in_turn c found = let t = target_at (project old) id c found in subst InTurn t.is (names_in_turn_of c.place t.it t.is_target (found ∙ ap Ok (sym t.is)))

-- ---- the laws

abbrev removed : List (List ℕ) → List (Mark Span) → Result (List Step) Refusal
removed names ms = removed_at (spots_named ms (distinct names))

others_checked : (name : List ℕ) (more : List (List ℕ)) (u : Unit {0}) → checked_names (name ∷ more) ≡ Ok u → checked_names more ≡ Ok u
others_checked [] more u is = absurd cc
others_checked (b ∷ bs) more u is = is

none_hidden : {X Y : Type 0} (xs : List X) (ys : List Y) (u : Unit {0}) → not_hidden xs ≡ Ok u → length ys ≡ length xs → not_hidden ys ≡ Ok u
none_hidden [] [] u is same = refl
none_hidden [] (y ∷ ys) u is same = absurd cc
none_hidden (x ∷ xs) ys u is same = absurd cc

pub sources-go-in-turn : SourcesGoInTurn
sources-go-in-turn old mid is is_mid same_names id c d found found_mid name more other first all one done made_all =
    let keys = keyword sources_key c.it in
    let keys2 = keyword sources_key d.it in
    let marks = source_marks (project old) c in
    let marks2 = source_marks (project mid) d in
    let a = then_was (checked_names (name ∷ [])) (λ _. then_ok (once sources_key keys marks) (removed (name ∷ []))) first one in
    let b = then_was (once sources_key keys marks) (removed (name ∷ [])) first a.2 in
    let e = then_was (checked_names (name ∷ more)) (λ _. then_ok (once sources_key keys marks) (removed (name ∷ more))) all made_all in
    let g = then_was (once sources_key keys marks) (removed (name ∷ more)) all e.2 in
    let r = names_in_turn of_sources sources_hold sources_lost old mid is is_mid same_names id d found_mid (files_stand mid is_mid.parsed id d found_mid).sources name more other first all done c found (files_stand old is.parsed id c found).sources
    (ap (removed (name ∷ [])) (once_was sources_key keys marks b.0 b.1) ∙ b.2) (ap (removed (name ∷ more)) (once_was sources_key keys marks g.0 g.1) ∙ g.2) in
    let few = few_once sources_key keys marks b.0 b.1 in
    let many = r.keys sources_key in (
      r.steps,
      ap (λ u. then_ok u (λ _. then_ok (once sources_key keys2 marks2) (removed more))) (others_checked name more e.0 e.1)
          ∙ ap (λ u. then_ok u (removed more)) (once_few sources_key keys2 marks2 (omega (arith, few, many))) ∙ r.are,
      r.all_are,
    )

pub extras-go-in-turn : ExtrasGoInTurn
extras-go-in-turn old mid is is_mid same_names id c d found found_mid name more other first all one done made_all =
    let p = project old in
    let keys = keyword extra_key c.it in
    let keys2 = keyword extra_key d.it in
    let hidden = keyword kwargs_key c.it in
    let hidden2 = keyword kwargs_key d.it in
    let marks = extra_marks p c in
    let marks2 = extra_marks (project mid) d in
    let a = then_was (checked_extra p c (name ∷ [])) (removed (name ∷ [])) first one in
    let e = then_was (checked_extra p c (name ∷ more)) (removed (name ∷ more)) all made_all in
    let g = then_was (checked_names (name ∷ more)) (λ _. then_ok (not_hidden hidden) (λ _. once extra_key keys marks)) e.0 e.1 in
    let h = then_was (not_hidden hidden) (λ _. once extra_key keys marks) e.0 g.2 in
    let r = names_in_turn of_extras extras_hold extras_lost old mid is is_mid same_names id d found_mid (files_stand mid is_mid.parsed id d found_mid).extras name more other first all done c found (files_stand old is.parsed id c found).extras
    (ap (removed (name ∷ [])) (checked_marks p c (name ∷ []) a.0 a.1) ∙ a.2) (ap (removed (name ∷ more)) (checked_marks p c (name ∷ more) e.0 e.1) ∙ e.2) in
    let few = few_once extra_key keys marks e.0 h.2 in
    let many = r.keys extra_key in (
      r.steps,
      ap (λ u. then_ok (then_ok u (λ _. then_ok (not_hidden hidden2) (λ _. once extra_key keys2 marks2))) (removed more)) (others_checked name more g.0 g.1)
          ∙ ap (λ u. then_ok (then_ok u (λ _. once extra_key keys2 marks2)) (removed more)) (none_hidden hidden hidden2 h.0 h.1 (r.keys kwargs_key))
          ∙ ap (λ u. then_ok u (removed more)) (once_few extra_key keys2 marks2 (omega (arith, few, many))) ∙ r.are,
      r.all_are,
    )
