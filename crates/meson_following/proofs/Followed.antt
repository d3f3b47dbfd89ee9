-- What is met one thing after another.
use Rattle.std.proofs.Common.{◌≡◌, ℕ, ◌+◌, ◌<◌, ◌≤◌, List, [], ◌∷◌, ◌++◌, length, drop, get_or, map, sym, ap, subst, ◌∙◌, arith, append-nil, length-append, append_assoc}
use Rattle.std.specs.Prelude.{Bool, true, Some}
use Rattle.std.proofs.lemmas.List.{at_drop_all, at_drop_more}
use Rattle.meson_lex.specs.declared.kinds.Span.{Span}
use Rattle.meson_syntax.specs.declared.tree.Arg.{Arg}
use Rattle.meson_syntax.specs.declared.tree.Operand.{Operand}
use Rattle.meson_syntax.specs.Tree.{Expression, arguments_of, operands_of}
use Rattle.meson_syntax.specs.View.{arg_view, args_view, expr_view, operand_view, operands_view}
use Rattle.meson_calls.specs.declared.call.CallRef.{CallRef}
use Rattle.meson_calls.specs.Project.{Project}
use Rattle.meson_calls.proofs.Parted.{operand_value}
use Rattle.meson_following.specs.Following.{Following, Mark, Stand, Way, both_followed, element, empty, follow_argument, follow_by, follow_each, follow_known, follow_makers, follow_operands, follow_unknown, inside, met, nothing_met, opaque, or_empty, then_follow, within}
use Rattle.meson_following.specs.Lists.{mixes}
use Rattle.meson_following.specs.Makers.{Made}

-- in turn
pub follow_twice : (f : Following Span) (first next : List CallRef → Following Span) → then_follow f (λ now. then_follow (first now) next) ≡ then_follow (then_follow f first) next
follow_twice f first next =
    let g = first f.followed in
    let h = next g.followed in
    ap (λ ms. record { marks = ms; followed = h.followed }) (sym (append_assoc f.marks g.marks h.marks))

pub follow_nothing : (f : Following Span) → then_follow f nothing_met ≡ f
follow_nothing f = ap (λ ms. record { marks = ms; followed = f.followed }) (append-nil f.marks)

-- ---- a list in which something is met, or nothing

module _ (q : CallRef) (w : Way) (f : Following Span) (more : List CallRef → Following Span) where
  abbrev after_marks : List (Mark Span) → List CallRef → Following Span
  after_marks ms followed = record { marks = f.marks ++ ms; followed = followed }

  go_none : (ms : List (Mark Span)) (followed : List CallRef) (after : Following Span) → length (f.marks ++ ms) ≤ length f.marks
      → after ≡ then_follow (after_marks ms followed) (met (empty q w)) → after ≡ after_marks (or_empty q w ms) followed
  go_none [] followed after less so = so ∙ ap (λ ns. record { marks = ns ++ empty q w ∷ []; followed = followed }) (append-nil f.marks)
  go_none (m ∷ ms) followed after less so = absurd (omega (arith, less, length-append f.marks (m ∷ ms)))

  pub none_met : (between after : Following Span) → length between.marks ≤ length f.marks → between ≡ then_follow f more → after ≡ then_follow between (met (empty q w))
      → after ≡ then_follow f (λ now. within q w (more now))
  none_met between after none is so =
      go_none (more f.followed).marks (more f.followed).followed after (subst (λ g. length g.marks ≤ length f.marks) is none) (so ∙ ap (λ g. then_follow g (met (empty q w))) is)

-- ---- element by element, operand by operand, maker by maker

module _ (is_list : CallRef → Expression Span → Bool) (variable : CallRef → List ℕ → Way → List CallRef → Following Span) (source : List ℕ) (q : CallRef) (w : Way) where
  abbrev pub args_from : List Arg → ℕ → List CallRef → Following Span
  args_from args n = follow_each is_list variable (arguments_of (args_view source args)) n q w

  pub arg_turn : (args : List Arg) (i : ℕ) (d : Arg) (before after whole : Following Span) → i < length args
      → after ≡ then_follow before (follow_argument is_list variable (arg_view source (get_or args i d)) (element q w i))
      → then_follow before (args_from (drop i args) i) ≡ whole → then_follow after (args_from (drop (i + 1) args) (i + 1)) ≡ whole
  arg_turn args i d before after whole inside step so_far =
      let here = follow_argument is_list variable (arg_view source (get_or args i d)) (element q w i) in
      ap (λ g. then_follow g (args_from (drop (i + 1) args) (i + 1))) step
      ∙ sym (follow_twice before here (args_from (drop (i + 1) args) (i + 1)))
      ∙ sym (at_drop_more (λ xs. then_follow before (args_from xs i)) args i d inside)
      ∙ so_far

  abbrev pub rest_from : List Operand → ℕ → List CallRef → Following Span
  rest_from rest n = follow_operands is_list variable (operands_of (operands_view source rest)) n q w

  pub operand_turn : (rest : List Operand) (i : ℕ) (d : Operand) (before after whole : Following Span) → i < length rest
      → after ≡ then_follow before (follow_by is_list variable (expr_view source (get_or rest i d).value) (inside q w (i + 1)))
      → then_follow before (rest_from (drop i rest) (i + 1)) ≡ whole → then_follow after (rest_from (drop (i + 1) rest) ((i + 1) + 1)) ≡ whole
  operand_turn rest i d before after whole within step so_far =
      let more = rest_from (drop (i + 1) rest) ((i + 1) + 1) in
      let here : Expression Span → List CallRef → Following Span = λ e. follow_by is_list variable e (inside q w (i + 1)) in
      ap (λ g. then_follow g more) step
      ∙ ap (λ e. then_follow (then_follow before (here e)) more) (sym (operand_value source (get_or rest i d)))
      ∙ sym (follow_twice before (here (operand_view source (get_or rest i d)).1) more)
      ∙ sym (at_drop_more (λ xs. then_follow before (rest_from xs (i + 1))) rest i d within)
      ∙ so_far

-- of any list
module _ {X Y : Type 0} (view : X → Y) (each : Y → List CallRef → Following Span) (all : List Y → List CallRef → Following Span)
    (more : (y : Y) (ys : List Y) (now : List CallRef) → all (y ∷ ys) now ≡ then_follow (each y now) (all ys)) where
  pub one_turn : (xs : List X) (i : ℕ) (x : X) (before after whole : Following Span) → i < length xs → x ≡ get_or xs i x → after ≡ then_follow before (each (view x))
      → then_follow before (all (map view (drop i xs))) ≡ whole → then_follow after (all (map view (drop (i + 1) xs))) ≡ whole
  one_turn xs i x before after whole within at_i step so_far =
      let rest = all (map view (drop (i + 1) xs)) in
      ap (λ g. then_follow g rest) (step ∙ ap (λ y. then_follow before (each (view y))) at_i)
      ∙ sym (follow_twice before (each (view (get_or xs i x))) rest)
      ∙ ap (both_followed before) (sym (more (view (get_or xs i x)) (map view (drop (i + 1) xs)) before.followed))
      ∙ sym (at_drop_more (λ ys. then_follow before (all (map view ys))) xs i x within)
      ∙ so_far

module _ {X Y : Type 0} (view : X → Y) (all : List Y → List CallRef → Following Span) (none : (now : List CallRef) → all [] now ≡ nothing_met now) where
  pub all_turned : (xs : List X) (i : ℕ) (g whole : Following Span) → length xs ≤ i → then_follow g (all (map view (drop i xs))) ≡ whole → g ≡ whole
  all_turned xs i g whole past so_far =
      sym (follow_nothing g)
      ∙ ap (both_followed g) (sym (none g.followed))
      ∙ sym (at_drop_all (λ ys. then_follow g (all (map view ys))) xs i past)
      ∙ so_far

-- ---- a variable

module _ (p : Project Span) (inner : Expression Span → Stand → List CallRef → Following Span) (w : Way) (f after : Following Span) where
  module _ (k : Made Span) (between : Following Span) (made : between ≡ then_follow f (follow_makers p inner w (mixes p k) k.makers)) where
    pub made_unknown : k.unknown ≡ true → after ≡ then_follow between (met opaque) → after ≡ then_follow f (follow_known p inner w (Some k))
    made_unknown is so =
        so
        ∙ ap (λ u. then_follow between (follow_unknown u)) (sym is)
        ∙ ap (λ g. then_follow g (follow_unknown k.unknown)) made
        ∙ sym (follow_twice f (follow_makers p inner w (mixes p k) k.makers) (follow_unknown k.unknown))
