-- One step as the code takes it: by the number of its file and the tree that it reads there.
use Rattle.meson_steps.proofs.Words.{◌≡◌, ℕ, ◌<◌, List, [], ◌∷◌, ◌++◌, length, get_or, refl, sym, ap, ◌∙◌, subst, arith, Bool, true, false, ◌==◌, IfOk, OnOk}
use Rattle.meson_steps.proofs.Words.{Option, Result, Some, None, Ok, Err, option_and_then, option_map, eqb-true, bytes_at, File, Splice, Lexeme, IsItemList}
use Rattle.meson_steps.proofs.Words.{Span, IsReady, layout_of, IsReadyIn, Primitive, ListAt, list_at, list_span, view, Parsed, Loaded, name_of_file, place}
use Rattle.meson_steps.proofs.Words.{nth_name, bare, bare_edit, path_of, Step, bytes_again, effective, HasReached, MayChangeList, Standing, ListEdit, ListStep}
use Rattle.meson_steps.proofs.Words.{AreLaid, edits_list, IsChanged, MayBeLaid, MayChange, list_again, looked_at, placed_edit}
use Rattle.meson_steps.proofs.SameRead.{same_read}
use Rattle.meson_steps.proofs.StepPlaces.{step_list, step_none}
use Rattle.meson_steps.proofs.OneStep.{in_files, in_trees, is_ready, is_ready_in, items, laid_is, list_found, list_is, made, may_change, may_change_list}
use Rattle.meson_steps.proofs.OneStep.{new_reached, same_reached, splices_are}

pub when_ok : {X E P Q : Type 0} (r : Result X E) → (P → Q) → OnOk r P → OnOk r Q
when_ok (Ok x) then p = then p
when_ok (Err e) then p = tt

pub empty_list : (xs ys : List Splice) → xs ≡ ys → true ≡ (length xs == 0) → ys ≡ []
empty_list [] ys is empty = sym is
empty_list (x ∷ xs) ys is empty = let none : length (x ∷ xs) ≡ 0 = eqb-true (length (x ∷ xs)) 0 (sym empty) in absurd (omega (arith, none))

pub some_list : (xs ys : List Splice) → xs ≡ ys → false ≡ (length xs == 0) → ys ≡ [] → ⊥
some_list [] ys is some empty = cc
some_list (x ∷ xs) ys is some empty = cc

file_of : (s : Step) (code : ListStep) (o : Option ListEdit) → option_map (λ e. record { list = place s.file (path_of s.edit); edit = e }) o ≡ Some code → code.list.file ≡ s.file
file_of s code (Some e) is = let same : code ≡ record { list = place s.file (path_of s.edit); edit = e } = cc in ap (λ (c : ListStep). c.list.file) same
file_of s code None is = absurd cc

module _ (old : Loaded) (w : Standing) (step : ListStep) (before rest : List Step) (s : Step) (is : bare s ≡ Some step) (r : HasReached old before (s ∷ rest) w) where
  pub file_is : step.list.file ≡ s.file
  file_is = file_of s step (bare_edit s.edit) is

  pub code_in_files : step.list.file < length w.files
  code_in_files = subst (λ i. i < length w.files) (sym file_is) (in_files old w before rest s r)

  pub code_in_trees : step.list.file < length w.trees
  code_in_trees = subst (λ i. i < length w.trees) (sym file_is) (in_trees old w before rest s r)

  module _ (t : Parsed) (there : t ≡ get_or w.trees step.list.file t) where
    at : t ≡ get_or w.trees s.file t
    at = there ∙ ap (λ i. get_or w.trees i t) file_is

    abbrev made_here : Primitive
    made_here = (made old w before rest s r t at).primitive

    abbrev pub IsLaid : Option Primitive → Type 0
    IsLaid o = o ≡ placed_edit (view (bytes_at s.file w.files) t) step.list.path.steps step.edit

    pub code_laid : (o : Option Primitive) → IsLaid o → o ≡ None → ⊥
    code_laid o laid none = let h = sym none ∙ laid ∙ laid_is old w before rest s r t at step is in cc

    module _ (p : Primitive) (laid : IsLaid (Some p)) (bs : List ℕ) (is_bytes : bs ≡ bytes_at step.list.file w.files) where
      here : bs ≡ bytes_at s.file w.files
      here = is_bytes ∙ ap (λ i. bytes_at i w.files) file_is

      code_ready : IsReady bs p
      code_ready = subst (λ b. IsReady b p) (sym here) (is_ready old w before rest s r t at step is p laid)

      code_ready_in : (list : Option Span) → list ≡ option_map (λ (q : ListAt Span). list_span q.list) (list_at (view (bytes_at s.file w.files) t) step.list.path.steps) → edits_list step.edit ≡ true → MayBeLaid bs list p
      code_ready_in list is_list of_list =
          let of = step_list s step is of_list in
          let found = list_is old w before rest s r t at step.list.path.steps of in
          subst (λ o. MayBeLaid bs o p) (sym (is_list ∙ ap (option_map (λ (q : ListAt Span). list_span q.list)) found))
          (subst (λ b. IsReadyIn b (list_span (list_found old w before rest s r t at step.list.path.steps of).p.list) p) (sym here) (is_ready_in old w before rest s r t at step is step.list.path.steps of p laid))

      pub code_may_be_laid : (of_list : Bool) → of_list ≡ edits_list step.edit → (list : Option Span) → list ≡ looked_at (view (bytes_at s.file w.files) t) step.list.path.steps of_list → MayBeLaid bs list p
      code_may_be_laid true of list is_list = code_ready_in list is_list (sym of)
      code_may_be_laid false of list is_list = subst (λ o. MayBeLaid bs o p) (sym is_list) code_ready

      -- the layout, in the tree that stands there
      pub code_are_laid : {V E : Type 0} (nm : List ℕ) (d : File) → nm ≡ (get_or w.files step.list.file d).name → (e : Parsed) (r : Result V E) (items_of : V → List Splice)
          → ((list : List Lexeme) → IsItemList bs list → IfOk r (λ v. items_of v ≡ effective (layout_of nm list p)))
          → IfOk r (λ v. AreLaid w.files (get_or w.trees step.list.file e) step (items_of v))
      code_are_laid nm d is_name e (Err x) items_of done = tt
      code_are_laid nm d is_name e (Ok v) items_of done =
          let same : t ≡ get_or w.trees step.list.file e = there ∙ same_read w.trees step.list.file t e code_in_trees in
          let name : nm ≡ name_of_file step.list.file w.files = is_name ∙ sym (nth_name w.files step.list.file d code_in_files) in
          subst (λ u. AreLaid w.files u step (items_of v)) same (record {
            primitive = p;
            is_primitive = subst (λ i. Some p ≡ placed_edit (view (bytes_at i w.files) t) step.list.path.steps step.edit) (sym file_is) laid;
            are = λ list of. done list (subst (λ b. IsItemList b list) (sym is_bytes) of) ∙ ap (λ n. effective (layout_of n list p)) name;
          })

      module _ (nm : List ℕ) (d : File) (is_name : nm ≡ (get_or w.files step.list.file d).name) (splices : List Splice) (done : (list : List Lexeme) → IsItemList bs list → splices ≡ effective (layout_of nm list p)) where
        name : nm ≡ name_of_file s.file w.files
        name = is_name ∙ sym (nth_name w.files step.list.file d code_in_files) ∙ ap (λ i. name_of_file i w.files) file_is

        are : splices ≡ effective (layout_of (name_of_file s.file w.files) (items old w before rest s r t at) made_here)
        are = splices_are old w before rest s r t at step is p laid splices
            (λ list of. done list (subst (λ b. IsItemList b list) (sym here) of) ∙ ap (λ n. effective (layout_of n list p)) name)

        pub code_same : splices ≡ [] → HasReached old (before ++ s ∷ []) rest w
        code_same empty = same_reached old w before rest s r t at splices are empty

        pub code_may_list : edits_list step.edit ≡ true → (d : Parsed) → MayChangeList w.files step.list splices (get_or w.trees step.list.file d)
        code_may_list of_list = λ d.
            let same : t ≡ get_or w.trees step.list.file d = there ∙ same_read w.trees step.list.file t d code_in_trees in
            subst (MayChangeList w.files step.list splices) same (may_change_list old w before rest s r t at splices are step.list.path.steps (step_list s step is of_list) step.list file_is refl)

        pub code_may : MayChange w.files step.list.file splices
        code_may = subst (λ i. MayChange w.files i splices) (sym file_is) (may_change old w before rest s r t at splices are)

        module _ (some : splices ≡ [] → ⊥) (new : Standing) where
          pub code_new : edits_list step.edit ≡ false → IsChanged w new step.list.file splices (length (bytes_at step.list.file new.files)) → HasReached old (before ++ s ∷ []) rest new
          code_new other c =
              let f = view (bytes_at s.file w.files) t in
              let count = ap (λ i. length (bytes_at i new.files)) file_is
              ∙ ap (λ o. bytes_again (option_and_then (list_at f) o) (bytes_at s.file w.files) (bytes_at s.file new.files)) (sym (step_none s step is other)) in
              new_reached old w before rest s r t at splices are some new _ (subst (λ i. IsChanged w new i splices (length (bytes_at step.list.file new.files))) file_is c) count

          pub code_new_list : edits_list step.edit ≡ true → IsChanged w new step.list.file splices (list_again w.files new.files step.list t) → HasReached old (before ++ s ∷ []) rest new
          code_new_list of_list c =
              let f = view (bytes_at s.file w.files) t in
              let count = ap (λ i. bytes_again (list_at (view (bytes_at i w.files) t) step.list.path.steps) (bytes_at i w.files) (bytes_at i new.files)) file_is
              ∙ ap (λ o. bytes_again (option_and_then (list_at f) o) (bytes_at s.file w.files) (bytes_at s.file new.files)) (sym (step_list s step is of_list)) in
              new_reached old w before rest s r t at splices are some new _ (subst (λ i. IsChanged w new i splices (list_again w.files new.files step.list t)) file_is c) count

  -- ---- as it is laid out

  abbrev no_file : File
  no_file = record { name = []; bytes = [] }

  module _ (d : Parsed) (splices : List Splice) (l : AreLaid w.files (get_or w.trees step.list.file d) step splices) where
    abbrev u : Parsed
    u = get_or w.trees step.list.file d

    is_u : u ≡ get_or w.trees step.list.file u
    is_u = same_read w.trees step.list.file d u code_in_trees

    is_p : IsLaid u is_u (Some l.primitive)
    is_p = subst (λ i. Some l.primitive ≡ placed_edit (view (bytes_at i w.files) u) step.list.path.steps step.edit) file_is l.is_primitive

    is_name : name_of_file step.list.file w.files ≡ (get_or w.files step.list.file no_file).name
    is_name = nth_name w.files step.list.file no_file code_in_files

    pub step_same : splices ≡ [] → HasReached old (before ++ s ∷ []) rest w
    step_same empty = code_same u is_u l.primitive is_p (bytes_at step.list.file w.files) refl (name_of_file step.list.file w.files) no_file is_name splices l.are empty

    pub step_may_list : edits_list step.edit ≡ true → (e : Parsed) → MayChangeList w.files step.list splices (get_or w.trees step.list.file e)
    step_may_list of_list = code_may_list u is_u l.primitive is_p (bytes_at step.list.file w.files) refl (name_of_file step.list.file w.files) no_file is_name splices l.are of_list

    pub step_may : MayChange w.files step.list.file splices
    step_may = code_may u is_u l.primitive is_p (bytes_at step.list.file w.files) refl (name_of_file step.list.file w.files) no_file is_name splices l.are

    module _ (some : splices ≡ [] → ⊥) (new : Standing) where
      pub step_new : edits_list step.edit ≡ false → IsChanged w new step.list.file splices (length (bytes_at step.list.file new.files)) → HasReached old (before ++ s ∷ []) rest new
      step_new = code_new u is_u l.primitive is_p (bytes_at step.list.file w.files) refl (name_of_file step.list.file w.files) no_file is_name splices l.are some new

      pub step_new_list : edits_list step.edit ≡ true → IsChanged w new step.list.file splices (list_again w.files new.files step.list u) → HasReached old (before ++ s ∷ []) rest new
      step_new_list = code_new_list u is_u l.primitive is_p (bytes_at step.list.file w.files) refl (name_of_file step.list.file w.files) no_file is_name splices l.are some new
