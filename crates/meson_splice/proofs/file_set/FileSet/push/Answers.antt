use Rattle.std.proofs.Common.{rules, ◌≡◌, ◌∙◌, ◌++◌, ◌∷◌, [], None, ap, sym, subst}
use Rattle.meson_splice.specs.Files.{IsDistinct, position_of_file}
use Rattle.meson_splice.specs.declared.file_set.File.{File}
use Rattle.meson_splice.proofs.Sets.{distinct-push}
use Rattle.meson_splice.proofs.file_set.FileSet.push.Goals as goal

pub invariant_of-self-in-Err : goal.invariant_of-self-in-Err
invariant_of-self-in-Err c = subst IsDistinct (sym c.reserve.ensures.items) c.self.invariant

pub invariant_of-self : goal.invariant_of-self
invariant_of-self c =
    let files = c.self.inside.files.items in
    let file : File = record { name = c.of.result; bytes = c.of-in-Ok.result } in
    let are : c.push_reserved.new.self.items ≡ files ++ file ∷ [] = c.push_reserved.ensures.items ∙ ap (λ l. l ++ file ∷ []) c.reserve.ensures.items in
    let none : position_of_file file.name files ≡ None = search rules in
    subst IsDistinct (sym are) (distinct-push files file c.self.invariant none)
