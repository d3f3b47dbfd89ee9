-- Tasks on a keyword argument of a call that stands: it is set or deleted, values are added, and the task that changes nothing.
use Rattle.meson_keywords.proofs.Words.{◌≡◌, ℕ, ◌≤◌, List, [], ◌∷◌, ◌++◌, length, map, refl, sym, ap, ◌∙◌, subst, All, Option, Some, None, Ok, cons_option}
use Rattle.meson_keywords.proofs.Words.{filter_map, then_ok, IsIdentifier, LevelExpression, expression_depth, expression_words, Nowhere, Plain, Expression}
use Rattle.meson_keywords.proofs.Words.{identifier, string, array, Argument, plain, Written, Remove, Replace, Wrap, elements, IsWritten, Numbered, child}
use Rattle.meson_keywords.proofs.Words.{CallRef, MayStandBetween, distinct_by, Step, step_in, Container, array_container, exchanged_at, elements_back}
use Rattle.meson_keywords.proofs.Words.{CallStands, Holds, coming, held_elements, held_in, put_behind, values_of, add_by_shape, add_there, add_to_lone}
use Rattle.meson_keywords.proofs.Words.{all_behind, behind_all, element_text, new_elements, value_shape, text_in, delete_there, keyword_in, one_at_most}
use Rattle.meson_keywords.proofs.Words.{set_there, task_steps, AreElements, set, delete, add, once, element_node, written_list, written_named, ElementKind}
use Rattle.std.proofs.Common.{IsUtf8}
use Rattle.meson_keywords.specs.declared.value_kinds.ElementKind.TheVariants as element
use Rattle.meson_keywords.proofs.ArrayEdits.{HoldsAs, puts_hold, wrap_holds}
use Rattle.meson_keywords.proofs.CallEdits.{elements_are, insert_step, inserted_leaves, none_leaves, one_leaves, remove_step, replace_step, xs}
use Rattle.meson_keywords.proofs.Does.{Does, TaskDoes, does}
use Rattle.meson_keywords.proofs.KeptArguments.{OneNamed, come_others, come_value, gone_others, gone_value, is_it, it, none_there, one_named, put_others}
use Rattle.meson_keywords.proofs.KeptArguments.{put_value, value_there}
use Rattle.meson_keywords.proofs.NamedWritten.{named_written}
use Rattle.meson_keywords.proofs.WrittenElements.{distinct_elements, list_level, list_shallow, list_written}

module _ (key : List ℕ) (new : Written (Expression Nowhere)) (is : IsIdentifier key) (utf8 : IsUtf8 key) (writes : IsWritten new.bytes (expression_words new.node)) (level : LevelExpression new.node) (small : expression_depth new.node ≤ 1)
    (c : CallRef) (trees : List Plain) (all : All MayStandBetween trees) (s : CallStands c trees) (steps : List Step) where
  abbrev outer : List (Argument Nowhere)
  outer = xs c trees all s

  set_by : (vs : List (Numbered (Expression Nowhere))) → keyword_in key outer ≡ vs → then_ok (one_at_most key vs) (λ v. Ok (set_there c (length outer) key new v ∷ [])) ≡ Ok steps → Does (set key new) c trees steps
  set_by [] none h =
      let same : behind_all c (length outer) (written_named key new) ∷ [] ≡ steps = cc in
      subst (Does (set key new) c trees) same
      (does (set key new) c trees all s _ _ (inserted_leaves c trees all s _ _ (insert_step c trees all s key new (named_written key new.bytes new.node is utf8 writes) level small))
      (record { values = come_value key outer new.node none; others = come_others key outer new.node }))
  set_by (v ∷ []) there h =
      let same : step_in c (Replace c.path.steps v.number new) ∷ [] ≡ steps = cc in
      let o = one_named key outer v there in
      subst (Does (set key new) c trees) same
      (does (set key new) c trees all s _ _
      (one_leaves c trees all s (Replace c.path.steps v.number new) _ (replace_step c trees all s v.number (it key outer v.number v.value o) v.value new (is_it key outer v.number v.value o) refl writes level small))
      (record { values = put_value key outer v.number v.value o new.node; others = put_others key outer v.number v.value o new.node }))
  set_by (v ∷ w ∷ more) there h = absurd cc

  pub set_made : task_steps (set key new) c outer ≡ Ok steps → Does (set key new) c trees steps
  set_made h = set_by (keyword_in key outer) refl h

pub set_does : (key : List ℕ) (new : Written (Expression Nowhere)) → IsIdentifier key → IsUtf8 key → IsWritten new.bytes (expression_words new.node) → LevelExpression new.node → expression_depth new.node ≤ 1
    → TaskDoes (set key new)
set_does key new is utf8 writes level small c trees all s steps made =
    set_made key new is utf8 writes level small c trees all s steps (sym (ap (task_steps (set key new) c) (elements_are c trees all s)) ∙ made)

pub delete_does : (key : List ℕ) → TaskDoes (delete key)
delete_does key c trees all s steps made =
    go (keyword_in key (xs c trees all s)) refl (sym (ap (task_steps (delete key) c) (elements_are c trees all s)) ∙ made)
  where
    go : (vs : List (Numbered (Expression Nowhere))) → keyword_in key (xs c trees all s) ≡ vs → then_ok (one_at_most key vs) (λ v. Ok (delete_there c v)) ≡ Ok steps → Does (delete key) c trees steps
    go [] none h =
        let same : [] ≡ steps = cc in
        subst (Does (delete key) c trees) same
        (does (delete key) c trees all s [] _ (none_leaves c trees all s) (record { values = none_there key (xs c trees all s) none; others = refl }))
    go (v ∷ []) there h =
        let same : step_in c (Remove c.path.steps v.number) ∷ [] ≡ steps = cc in
        let o = one_named key (xs c trees all s) v there in
        subst (Does (delete key) c trees) same
        (does (delete key) c trees all s _ _
        (one_leaves c trees all s (Remove c.path.steps v.number) _ (remove_step c trees all s v.number (it key (xs c trees all s) v.number v.value o) (is_it key (xs c trees all s) v.number v.value o)))
        (record { values = gone_value key (xs c trees all s) v.number v.value o; others = gone_others key (xs c trees all s) v.number v.value o }))
    go (v ∷ w ∷ more) there h = absurd cc

pub once_does : (key : List ℕ) → TaskDoes (once key)
once_does key c trees all s steps made =
    go (keyword_in key (xs c trees all s)) (sym (ap (task_steps (once key) c) (elements_are c trees all s)) ∙ made)
  where
    nothing : [] ≡ steps → Does (once key) c trees steps
    nothing same = subst (Does (once key) c trees) same (does (once key) c trees all s [] _ (none_leaves c trees all s) refl)

    go : (vs : List (Numbered (Expression Nowhere))) → then_ok (one_at_most key vs) (λ v. Ok []) ≡ Ok steps → Does (once key) c trees steps
    go [] h = nothing cc
    go (v ∷ []) h = nothing cc
    go (v ∷ w ∷ more) h = absurd cc

-- ---- what an argument holds

pub holds_these : (key : List ℕ) (k : Container) → ((l : _) → held_elements (k.make l) ≡ elements l) → (c : CallRef) (steps : List Step) (trees : List Plain) (outer ys : List (Argument Nowhere)) (n : ℕ) (e : Expression Nowhere) (o : OneNamed key outer n e)
    (h : HoldsAs k c steps trees n (it key outer n e o) outer ys) → Holds key ys outer (exchanged_at n (it key outer n e o) outer (k.make h.list))
holds_these key k all_held c steps trees outer ys n e o h = record {
  holds = ap held_in (put_value key outer n e o (k.make h.list)) ∙ all_held h.list ∙ h.are;
  others = put_others key outer n e o (k.make h.list);
}

-- ---- values added

pub flat_text : (k : ElementKind) (e : Expression Nowhere) (text : List ℕ) → text_in k e ≡ Some text → expression_depth e ≡ 0
flat_text element.Text (string s q x) text is = refl
flat_text element.Text _ text is = absurd cc
flat_text element.Identifier (identifier s x) text is = refl
flat_text element.Identifier _ text is = absurd cc

-- a value that is an element holds itself alone
pub lone_held : (k : ElementKind) (e : Expression Nowhere) (text : List ℕ) → text_in k e ≡ Some text → held_elements e ≡ plain e ∷ []
lone_held element.Text (string s q x) text is = refl
lone_held element.Text _ text is = absurd cc
lone_held element.Identifier (identifier s x) text is = refl
lone_held element.Identifier _ text is = absurd cc

put_twice_mapped : (k : ElementKind) (values : List (List ℕ)) → map plain (map (element_node k) values) ≡ put_behind k values
put_twice_mapped k [] = refl
put_twice_mapped k (t ∷ ts) = ap (λ l. plain (element_node k t) ∷ l) (put_twice_mapped k ts)

module _ (key : List ℕ) (k : ElementKind) (values : List (List ℕ)) (is_key : IsIdentifier key) (utf8 : IsUtf8 key) (are : AreElements k values) (c : CallRef) (trees : List Plain) (all : All MayStandBetween trees) (s : CallStands c trees) (steps : List Step) where
  abbrev arguments : List (Argument Nowhere)
  arguments = xs c trees all s

  -- what the argument holds then, by the values that it has
  abbrev grown : List (Expression Nowhere) → List (Argument Nowhere)
  grown vs = held_in vs ++ put_behind k (coming k values vs)

  grows : (made : List Step) (n : ℕ) (e : Expression Nowhere) (o : OneNamed key arguments n e) (ys : List (Argument Nowhere)) → HoldsAs array_container c made trees n (it key arguments n e o) arguments ys → ys ≡ grown (e ∷ []) → made ≡ steps
      → Does (add key k values) c trees steps
  grows made n e o ys h is same =
      let whole : ys ≡ grown (values_of key arguments) = is ∙ ap grown (sym (value_there key arguments n e o)) in
      let after = exchanged_at n (it key arguments n e o) arguments (array h.list) in
      subst (Does (add key k values) c trees) same
      (does (add key k values) c trees all s made after h.leaves (subst (λ zs. Holds key zs arguments after) whole (holds_these key array_container (λ l. refl) c made trees arguments ys n e o h)))

  add_lone : (n : ℕ) (e : Expression Nowhere) (o : OneNamed key arguments n e) (t : Option (List ℕ)) → text_in k e ≡ t → add_to_lone c n key k values t ≡ Ok steps → Does (add key k values) c trees steps
  add_lone n e o None is h = absurd cc
  add_lone n e o (Some text) is h =
      let fresh = distinct_by (text ∷ []) values in
      let same : step_in c (Wrap c.path.steps n) ∷ all_behind (child c n) 1 (new_elements k (text ∷ []) values) ≡ steps = cc in
      let lone = lone_held k e text is in
      let texts : filter_map (element_text k) (held_elements e) ≡ text ∷ [] = ap (filter_map (element_text k)) lone ∙ ap (λ x. cons_option x []) is in
      let whole : plain e ∷ put_behind k fresh ≡ grown (e ∷ []) = ap (λ l. l ++ put_behind k fresh) (sym lone) ∙ ap (λ l. held_elements e ++ put_behind k (distinct_by l values)) (sym texts) in
      grows _ n e o (plain e ∷ put_behind k fresh)
      (wrap_holds c k fresh (distinct_elements k (text ∷ []) values are) trees all s n (it key arguments n e o) e (is_it key arguments n e o) refl (flat_text k e text is)) whole same

  add_value : (n : ℕ) (e : Expression Nowhere) (o : OneNamed key arguments n e) → add_by_shape c n key k values (text_in k e) (value_shape e) ≡ Ok steps → Does (add key k values) c trees steps
  add_value n (array l) o h =
      let known = filter_map (element_text k) (elements l) in
      let same : all_behind (child c n) (length (elements l)) (new_elements k known values) ≡ steps = cc in
      grows _ n (array l) o (elements l ++ put_behind k (distinct_by known values))
      (puts_hold c k (distinct_by known values) (distinct_elements k known values are) trees all s n (it key arguments n (array l) o) l (is_it key arguments n (array l) o) refl) refl same
  add_value n e o h = add_lone n e o (text_in k e) refl h

  add_by : (vs : List (Numbered (Expression Nowhere))) → keyword_in key arguments ≡ vs → then_ok (one_at_most key vs) (add_there c (length arguments) key k values) ≡ Ok steps → Does (add key k values) c trees steps
  add_by [] none h =
      let new = written_list k values in
      let same : behind_all c (length arguments) (written_named key new) ∷ [] ≡ steps = cc in
      let holds_new : held_elements new.node ≡ put_behind k values = elements_back (map plain (map (element_node k) values)) ∙ put_twice_mapped k values in
      let whole : put_behind k values ≡ grown (values_of key arguments) = ap grown (sym (none_there key arguments none)) in
      subst (Does (add key k values) c trees) same
      (does (add key k values) c trees all s _ _
      (inserted_leaves c trees all s _ _ (insert_step c trees all s key new (named_written key new.bytes new.node is_key utf8 (list_written k values are)) (list_level k values are) (list_shallow k values are)))
      (record { holds = ap held_in (come_value key arguments new.node none) ∙ holds_new ∙ whole; others = come_others key arguments new.node }))
  add_by (v ∷ []) there h = add_value v.number v.value (one_named key arguments v there) h
  add_by (v ∷ w ∷ more) there h = absurd cc

pub add_does : (key : List ℕ) (k : ElementKind) (values : List (List ℕ)) → IsIdentifier key → IsUtf8 key → AreElements k values → TaskDoes (add key k values)
add_does key k values is utf8 are c trees all s steps made =
    add_by key k values is utf8 are c trees all s steps (keyword_in key (xs c trees all s)) refl (sym (ap (task_steps (add key k values) c) (elements_are c trees all s)) ∙ made)
