-- Elements and their sort keys, and the steps that put one in front.
use Rattle.meson_steps.proofs.Words.{◌≡◌, ℕ, suc, ◌+◌, ◌<◌, List, [], ◌∷◌, ◌++◌, append-nil, append_assoc, drop, get_or, length, map, Option, Some, None, sym, ap, ◌∙◌, add-one, option_map, Result, OnOk}
use Rattle.std.proofs.lemmas.Result.{on_ok_weaker}
use Rattle.std.proofs.Math.Seq.{drop-cons}
use Rattle.meson_lex.specs.declared.kinds.Span.{Span}
use Rattle.meson_syntax.specs.declared.tree.Arg.{Arg}
use Rattle.meson_syntax.specs.declared.tree.Arg.TheVariants as arg
use Rattle.meson_syntax.specs.declared.tree.Expr.{Expr}
use Rattle.meson_syntax.specs.Tree.{plain, Expression, Nowhere}
use Rattle.meson_syntax.specs.View.{arg_view, args_view, expr_view}
use Rattle.meson_edit.specs.Edits.{Replace, Written}
use Rattle.meson_calls.specs.declared.call.CallRef.{CallRef}
use Rattle.meson_calls.proofs.ArgumentViews.{named_view, pair_view, plain_view}
use Rattle.meson_steps.specs.declared.order.SortKey.{SortKey}
use Rattle.meson_steps.specs.declared.step.ListStep.{ListStep}
use Rattle.meson_steps.specs.ListSteps.{bare}
use Rattle.meson_steps.specs.OrderedLists.{Ordered, first_of, put_after, put_in_front, sort_key, sort_keys}
use Rattle.meson_steps.specs.Steps.{step_in}

module _ (source : List ℕ) (args : List Arg) (i : ℕ) (d : Arg) (within : i < length args) (here : d ≡ get_or args i d) where
  keys_here : sort_keys (args_view source (drop i args)) ≡ sort_keys (arg_view source d ∷ args_view source (drop (i + 1) args))
  keys_here =
      ap (λ l. sort_keys (args_view source l)) (drop-cons args i d within ∙ ap (λ n. get_or args i d ∷ drop n args) (sym (add-one i)))
      ∙ ap (λ a. sort_keys (arg_view source a ∷ args_view source (drop (i + 1) args))) (sym here)

  pub keys_more : (keys : List SortKey) (e : Expr) → d ≡ arg.Plain e
      → (keys ++ sort_key (expr_view source e) ∷ []) ++ sort_keys (args_view source (drop (i + 1) args)) ≡ keys ++ sort_keys (args_view source (drop i args))
  keys_more keys e is =
      let later = args_view source (drop (i + 1) args) in
      append_assoc keys (sort_key (expr_view source e) ∷ []) (sort_keys later)
      ∙ ap (λ l. keys ++ l) (sym (keys_here ∙ ap (λ a. sort_keys (a ∷ later)) (ap (arg_view source) is ∙ plain_view source e)))

  pub keys_named : (keys : List SortKey) (s x : Span) (e : Expr) → d ≡ arg.Named s x e → keys ≡ keys ++ sort_keys (args_view source (drop i args))
  keys_named keys s x e is =
      let later = args_view source (drop (i + 1) args) in
      sym (append-nil keys) ∙ ap (λ l. keys ++ l) (sym (keys_here ∙ ap (λ a. sort_keys (a ∷ later)) (ap (arg_view source) is ∙ named_view source s x e)))

  pub keys_pair : (keys : List SortKey) (s : Span) (k v : Expr) → d ≡ arg.Pair s k v → keys ≡ keys ++ sort_keys (args_view source (drop i args))
  keys_pair keys s k v is =
      let later = args_view source (drop (i + 1) args) in
      sym (append-nil keys) ∙ ap (λ l. keys ++ l) (sym (keys_here ∙ ap (λ a. sort_keys (a ∷ later)) (ap (arg_view source) is ∙ pair_view source s k v)))

  first_here : first_of source (args_view source (drop i args)) ≡ first_of source (arg_view source d ∷ args_view source (drop (i + 1) args))
  first_here =
      ap (λ l. first_of source (args_view source l)) (drop-cons args i d within ∙ ap (λ n. get_or args i d ∷ drop n args) (sym (add-one i)))
      ∙ ap (λ a. first_of source (arg_view source a ∷ args_view source (drop (i + 1) args))) (sym here)

  pub first_plain : (e : Expr) → d ≡ arg.Plain e → first_of source (args_view source (drop i args)) ≡ first_of source (plain (expr_view source e) ∷ [])
  first_plain e is = first_here ∙ ap (λ a. first_of source (a ∷ args_view source (drop (i + 1) args))) (ap (arg_view source) is ∙ plain_view source e)

  pub first_named : (s x : Span) (e : Expr) → d ≡ arg.Named s x e → first_of source (args_view source (drop i args)) ≡ None
  first_named s x e is = first_here ∙ ap (λ a. first_of source (a ∷ args_view source (drop (i + 1) args))) (ap (arg_view source) is ∙ named_view source s x e)

  pub first_pair : (s : Span) (k v : Expr) → d ≡ arg.Pair s k v → first_of source (args_view source (drop i args)) ≡ None
  first_pair s k v is = first_here ∙ ap (λ a. first_of source (a ∷ args_view source (drop (i + 1) args))) (ap (arg_view source) is ∙ pair_view source s k v)

-- the first element becomes the new one, and comes after it
pub put_front : {T E : Type 0} (r : Result T E) (list : CallRef) (o : Ordered) (first : Option (Written (Expression Nowhere))) (bytes : List ℕ) → Some bytes ≡ option_map (λ v. v.bytes) first → (w : Written (Expression Nowhere)) (olds mids news : List ListStep)
    → map Some mids ≡ map Some olds ++ map bare (step_in list (Replace list.path.steps o.from w) ∷ [])
    → ((v : Written (Expression Nowhere)) → v.bytes ≡ bytes → OnOk r (map Some news ≡ map Some mids ++ map bare (put_after list (suc o.from) v ∷ [])))
    → OnOk r (map Some news ≡ map Some olds ++ map bare (put_in_front list o first w))
put_front r list o None bytes is w olds mids news one two = absurd (let no : ⊥ = cc in no)
put_front r list o (Some v) bytes is w olds mids news one two =
    let same : v.bytes ≡ bytes = cc in
    let here = step_in list (Replace list.path.steps o.from w) in
    let next = put_after list (suc o.from) v in
    on_ok_weaker r (λ h. h ∙ ap (λ l. l ++ map bare (next ∷ [])) one ∙ append_assoc (map Some olds) (map bare (here ∷ [])) (map bare (next ∷ []))) (two v same)
