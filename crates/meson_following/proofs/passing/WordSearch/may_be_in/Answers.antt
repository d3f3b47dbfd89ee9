use Rattle.std.proofs.Common.{◌≡◌, false, nat_lt, sym, subst, arith}
use Rattle.std.proofs.lemmas.Bool.{ltb-false}
use Rattle.meson_syntax.specs.View.{text_at}
use Rattle.meson_calls.specs.Spelling.{HasNone}
use Rattle.meson_following.specs.Passing.{IsSearch}
use Rattle.meson_following.proofs.Occurrences.{none_in_part}
use Rattle.meson_following.proofs.passing.WordSearch.may_be_in.Goals as goal
use Rattle.meson_following.proofs.passing.WordSearch.may_be_in.Goals.{then-part-self, else-part-self+else-self-part}

pub returns-clause-passed : goal.returns-clause-passed
returns-clause-passed c = elim c.if-part-self.branch [
  | then-part-self w ↦ subst (IsSearch c.args.bytes.now) (sym w.self-is) w.first_from-self.ensures
  | else-part-self+else-self-part w ↦ subst (IsSearch c.args.bytes.now) (sym w.self-is) c.requires
]

pub returns-clause-none : goal.returns-clause-none
returns-clause-none c =
    let bytes = c.args.bytes.now in
    let word = c.args.self.now.word in
    let part = c.args.part in
    elim c.if-part-self.branch [
      | then-part-self w ↦ subst (λ s. nat_lt s.to part.to ≡ false → HasNone word (text_at bytes part)) (sym w.self-is)
          (λ off. none_in_part bytes word part part.from w.first_from-self.result w.first_from-self.ensures (omega arith) c.if-part.false (ltb-false _ _ off) c.if-part-bytes.false)
      | else-part-self+else-self-part w ↦ subst (λ s. nat_lt s.to part.to ≡ false → HasNone word (text_at bytes part)) (sym w.self-is)
          (λ off. none_in_part bytes word part c.args.self.now.from c.args.self.now.to c.requires w.if-part-self.false c.if-part.false (ltb-false _ _ off) c.if-part-bytes.false)
    ]
