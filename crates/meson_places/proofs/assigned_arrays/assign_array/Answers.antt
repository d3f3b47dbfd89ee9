use Rattle.std.proofs.Common.{◌≡◌, true, false, ℕ, List, [], ◌∷◌, ◌++◌, map, Some, Ok, Err, sym, ap, ◌∙◌, subst}
use Rattle.std.specs.Prelude.{if◌then◌else◌}
use Rattle.meson_syntax.specs.Tree.{Expression, Nowhere}
use Rattle.meson_edit.specs.Edits.{Written}
use Rattle.meson_calls.specs.declared.refusal.Refusal.TheVariants.{NotLiteral, TooDeep}
use Rattle.meson_steps.specs.Code.{IsValue}
use Rattle.meson_steps.specs.declared.step.ListEdit.TheVariants as code
use Rattle.meson_places.specs.AssignedArrays.{is_line}
use Rattle.meson_places.specs.AssignedValues.{assign_steps, assigned_room, statement_of}
use Rattle.meson_places.proofs.assigned_arrays.assign_array.Goals as goal

value_as : (text : List ℕ) (w : Written (Expression Nowhere)) (x : IsValue w.bytes) → x.node ≡ w.node → text ≡ w.bytes → (y : IsValue text) × (y.node ≡ w.node)
value_as text w x node is = subst (λ t. (y : IsValue t) × (y.node ≡ w.node)) (sym is) (x, node)

pub returns-then-not-is_line : goal.returns-then-not-is_line
returns-then-not-is_line c = record {
  made = λ w is x node other.
      let at_ = c.args.place.now in
      let key = c.args.key.now in
      let line : is_line w.bytes ≡ false = ap is_line (is ∙ sym c.get-text.ensures) ∙ sym c.is_line.ensures ∙ c.if-not-is_line.true in
      ap (λ b. if b then (if assigned_room at_ w.node then Ok (assign_steps at_ w) else Err TooDeep) else Err (NotLiteral key)) line
      ∙ ap (λ k. Err (NotLiteral k)) (sym c.in_ok-clone.ensures.cases);
}

pub returns-then-not-branch : goal.returns-then-not-branch
returns-then-not-branch c = record {
  made = λ w is x node other.
      let at_ = c.args.place.now in
      let key = c.args.key.now in
      let line : is_line w.bytes ≡ true = ap is_line (is ∙ sym c.get-text.ensures) ∙ sym c.is_line.ensures ∙ c.if-not-is_line.false in
      let y = value_as c.get-text.result.now w x node (c.get-text.ensures ∙ sym is) in
      let room : assigned_room at_ w.node ≡ false = ap (assigned_room at_) (sym y.1) ∙ sym (c.in_ok-has_room_at.ensures y.0) ∙ c.if-not-branch.true in
      ap (λ b. if b then (if assigned_room at_ w.node then Ok (assign_steps at_ w) else Err TooDeep) else Err (NotLiteral key)) line
      ∙ ap (λ b. if b then Ok (assign_steps at_ w) else Err TooDeep) room;
}

pub returns : goal.returns
returns c = record {
  made = λ w is x node.
      let at_ = c.args.place.now in
      let key = c.args.key.now in
      let line : is_line w.bytes ≡ true = ap is_line (is ∙ sym c.get-text.ensures) ∙ sym c.is_line.ensures ∙ c.if-not-is_line.false in
      let y = value_as c.get-text.result.now w x node (c.get-text.ensures ∙ sym is) in
      let room : assigned_room at_ w.node ≡ true = ap (assigned_room at_) (sym y.1) ∙ sym (c.in_ok-has_room_at.ensures y.0) ∙ c.if-not-branch.false in
      record {
        steps = assign_steps at_ w;
        is = ap (λ b. if b then (if assigned_room at_ w.node then Ok (assign_steps at_ w) else Err TooDeep) else Err (NotLiteral key)) line
            ∙ ap (λ b. if b then Ok (assign_steps at_ w) else Err TooDeep) room;
        bare = ap (λ b. Some (record { list = statement_of at_; edit = code.Assign b }) ∷ []) is
            ∙ ap (λ q. Some (record { list = q; edit = code.Assign c.args.array }) ∷ []) (sym c.in_ok-statement.ensures)
            ∙ sym (ap (map Some) (c.in_ok-push_edit.ensures ∙ ap (λ t. t ++ record { list = c.in_ok-statement.statement; edit = code.Assign c.args.array } ∷ []) c.new-steps.ensures.items));
      };
}
