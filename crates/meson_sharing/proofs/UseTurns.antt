-- Uses that are taken one after another.
use Rattle.std.proofs.Common.{◌≡◌, ℕ, ◌+◌, ◌<◌, List, [], ◌++◌, length, drop, get_or, refl, sym, ap, ◌∙◌, append-nil}
use Rattle.std.specs.Prelude.{Bool, true, false, if◌then◌else◌}
use Rattle.meson_lex.specs.declared.kinds.Span.{Span}
use Rattle.meson_syntax.specs.declared.tree.Arg.{Arg}
use Rattle.meson_syntax.specs.declared.tree.Expr.TheVariants as expr
use Rattle.meson_syntax.specs.declared.tree.Expr.{Expr}
use Rattle.meson_syntax.specs.declared.tree.List as rust
use Rattle.meson_syntax.specs.declared.tree.Tail as rust_tail
use Rattle.meson_syntax.specs.declared.tree.Tail.TheVariants as tail
use Rattle.meson_syntax.specs.Tree.{arguments_of, tails_of}
use Rattle.meson_syntax.specs.View.{arg_view, args_view, expr_view, tail_view, tails_view, text_at}
use Rattle.meson_calls.specs.declared.call.CallRef.{CallRef}
use Rattle.meson_calls.proofs.GoodNotes.{call_view}
use Rattle.meson_calls.proofs.Listed.{list_is}
use Rattle.meson_calls.proofs.ListTurns.{args_size, tail_size}
use Rattle.meson_following.proofs.GoodNodes.{method_is, postfix_is}
use Rattle.meson_following.proofs.TakenTurns.{taken_turn}
use Rattle.meson_sharing.specs.Sharing.{passes_on, uses_of_argument, uses_of_arguments, uses_of_expression, uses_of_listing, uses_of_tail, uses_of_tails}

module _ (source : List ℕ) (q : CallRef) where
  abbrev pub args_uses : ℕ → List Arg → List CallRef
  args_uses n args = uses_of_arguments q n (arguments_of (args_view source args))

  abbrev pub arg_uses : ℕ → Arg → List CallRef
  arg_uses n a = uses_of_argument q n (arg_view source a)

  pub arg_turn : (args : List Arg) (i : ℕ) (d : Arg) (n k : ℕ) (before after whole here : List CallRef) → i < length args → after ≡ before ++ here
      → here ≡ arg_uses n (get_or args i d) → k ≡ n + args_size source (get_or args i d) → before ++ args_uses n (drop i args) ≡ whole
      → after ++ args_uses k (drop (i + 1) args) ≡ whole
  arg_turn = taken_turn args_uses arg_uses (args_size source) (λ n a as_. refl)

  abbrev pub tails_uses : ℕ → List rust_tail.Tail → List CallRef
  tails_uses n ts = uses_of_tails q n (tails_of (tails_view source ts))

  abbrev pub tail_uses : ℕ → rust_tail.Tail → List CallRef
  tail_uses n t = uses_of_tail q n (tail_view source t)

  pub tail_turn : (ts : List rust_tail.Tail) (i : ℕ) (d : rust_tail.Tail) (n k : ℕ) (before after whole here : List CallRef) → i < length ts
      → after ≡ before ++ here → here ≡ tail_uses n (get_or ts i d) → k ≡ n + tail_size source (get_or ts i d) → before ++ tails_uses n (drop i ts) ≡ whole
      → after ++ tails_uses k (drop (i + 1) ts) ≡ whole
  tail_turn = taken_turn tails_uses tail_uses (tail_size source) (λ n t ts. refl)

  -- of a method
  pub method_uses : (x : rust_tail.Tail) (s name : Span) (l : rust.List) (args : List Arg) (n : ℕ) → x ≡ tail.Method s name l → args ≡ l.items
      → args_uses n args ≡ tail_uses n x
  method_uses x s name l args n is items =
      ap (args_uses n) items ∙ sym (ap (uses_of_listing q n) (list_is source l)) ∙ sym (ap (uses_of_tail q n) (ap (tail_view source) is ∙ method_is source s name l))

  -- of a call
  module _ (x : Expr) (s name : Span) (l : rust.List) (args : List Arg) (is : x ≡ expr.Call s name l) (items : args ≡ l.items) (b : Bool)
      (tested : b ≡ passes_on (text_at source name)) where
    abbrev if_not : Bool → List CallRef
    if_not c = if c then [] else args_uses 0 args

    call_uses : if_not b ≡ uses_of_expression q (expr_view source x)
    call_uses =
        ap if_not tested
        ∙ ap (λ us. if passes_on (text_at source name) then [] else us) (ap (args_uses 0) items ∙ sym (ap (uses_of_listing q 0) (list_is source l)))
        ∙ sym (ap (uses_of_expression q) (ap (expr_view source) is ∙ call_view source s name l))

    pub passed_on : b ≡ true → (before : List CallRef) → before ≡ before ++ uses_of_expression q (expr_view source x)
    passed_on holds before = sym (append-nil before) ∙ ap (λ us. before ++ us) (sym (ap if_not holds) ∙ call_uses)

    pub call_taken : b ≡ false → (before after : List CallRef) → after ≡ before ++ args_uses 0 args → after ≡ before ++ uses_of_expression q (expr_view source x)
    call_taken fails before after taken = taken ∙ ap (λ us. before ++ us) (sym (ap if_not fails) ∙ call_uses)

  -- of methods
  pub postfix_uses : (x : Expr) (s : Span) (e : Expr) (ts us : List rust_tail.Tail) → x ≡ expr.Postfix s e ts → us ≡ ts
      → tails_uses 1 us ≡ uses_of_expression q (expr_view source x)
  postfix_uses x s e ts us is same = sym (ap (uses_of_expression q) (postfix_is source x s e e ts us is refl same))
