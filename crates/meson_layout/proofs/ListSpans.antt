-- A list's text in its source, and the items that are laid out for it.
use Rattle.std.proofs.Common.{◌≡◌, ℕ, ◌+◌, ◌-◌, ◌<◌, ◌≤◌, ◌^◌, List, ◌∷◌, ◌++◌, length, take, drop, sym, ap, ap₂, ◌∙◌, subst, arith}
use Rattle.std.proofs.lemmas.List.{length-append}
use Rattle.std.proofs.Math.Seq.{take-append_seam, drop-append_seam}
use Rattle.std.specs.Prelude.{slice_range}
use Rattle.meson_lex.specs.declared.kinds.Kind.TheVariants.{Identifier}
use Rattle.meson_lex.specs.declared.kinds.Span.{Span}
use Rattle.meson_lex.specs.Items.{IsItemList, Lexeme, joined}
use Rattle.meson_lex.proofs.OneList.{one_list}
use Rattle.meson_lex.proofs.Seams.{joined-append}
use Rattle.meson_layout.specs.declared.primitive.Primitive.{Primitive}
use Rattle.meson_layout.specs.declared.primitive.Primitive.TheVariants.{First, After, Remove, Replace, Wrap, RemoveStatement, Append, Lines}
use Rattle.meson_layout.specs.Layout.{layout_of}
use Rattle.meson_layout.specs.inside.Layout.{FirstFits}
use Rattle.meson_layout.specs.Local.{IsOfList, IsReadyIn, alone}
use Rattle.meson_layout.proofs.Alone.{alone-items, source-is}
use Rattle.meson_layout.proofs.LocalLaws.{laid-behind}

module _ (source : List ℕ) (list : Span) (primitive : Primitive) (r : IsReadyIn source list primitive) where
  abbrev front : List ℕ
  front = joined r.list_in.front

  abbrev text : List ℕ
  text = joined (alone r.items r.list_in)

  from-is : list.from ≡ length front
  from-is = ap (λ (s : Span). s.from) r.span

  to-is : list.to ≡ length front + length text
  to-is = ap (λ (s : Span). s.to) r.span ∙ ap length (joined-append r.list_in.front (alone r.items r.list_in)) ∙ length-append front text

  whole : front ++ (text ++ joined r.list_in.rest) ≡ source
  whole = source-is source r.items r.are_items r.list_in

  pub ordered : list.from ≤ list.to
  ordered = let from = from-is in let to = to-is in omega arith

  pub within : list.to ≤ length source
  within =
      let to = to-is in
      let size = sym (ap length whole) ∙ length-append front (text ++ joined r.list_in.rest) in
      let more = length-append text (joined r.list_in.rest) in
      omega arith

  front-is : take list.from source ≡ front
  front-is = ap₂ take from-is (sym whole) ∙ take-append_seam front (text ++ joined r.list_in.rest)

  text-is : slice_range source list.from list.to ≡ text
  text-is =
      let n : list.to - list.from ≡ length text = let from = from-is in let to = to-is in omega arith in
      ap₂ take n (ap₂ drop from-is (sym whole) ∙ drop-append_seam front (text ++ joined r.list_in.rest)) ∙ take-append_seam text (joined r.list_in.rest)

  -- the items that are read: one for what stands before the list, and the list's
  abbrev pub read : List Lexeme
  read = record { kind = Identifier; text = take list.from source } ∷ alone r.items r.list_in

  pub list-items : IsItemList (slice_range source list.from list.to) (alone r.items r.list_in)
  list-items = subst (λ bytes. IsItemList bytes (alone r.items r.list_in)) (sym text-is) (alone-items source r.items r.are_items r.list_in)

  pub read-fits : length source + 1 < 2 ^ 64 → length (joined read) + 1 < 2 ^ 64
  read-fits few =
      let size = length-append (take list.from source) text in
      let before = ap length front-is in
      let to = to-is in
      let inside = within in
      omega (arith, few)

  pub bracket-fits : length source + 1 < 2 ^ 64 → FirstFits primitive
  bracket-fits few = fits primitive r.of_list
    where
      fits : (p : Primitive) → IsOfList r.items r.list_in p → FirstFits p
      fits (First at new) is = let from = from-is in let to = ordered in let inside = within in omega (arith, few, is)
      fits (After s new) is = tt
      fits (Remove s) is = tt
      fits (Replace s new) is = tt
      fits (Wrap s) is = tt
      fits (RemoveStatement s blank) is = tt
      fits (Append new) is = tt
      fits (Lines spot new) is = tt

  pub laid-alone : (file : List ℕ) (items : List Lexeme) → IsItemList source items → layout_of file read primitive ≡ layout_of file items primitive
  laid-alone file items are =
      laid-behind file source r.items r.are_items r.list_in record { kind = Identifier; text = take list.from source } front-is primitive r.of_list
      ∙ ap (λ xs. layout_of file xs primitive) (one_list source r.items items r.are_items are)
