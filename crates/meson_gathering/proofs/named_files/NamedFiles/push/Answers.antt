use Rattle.std.proofs.Common.{◌≡◌, ◌∙◌, ◌++◌, ◌∷◌, [], cond, true, false, ap, sym, subst}
use Rattle.std.specs.Prelude.{bytes_eq, string_bytes}
use Rattle.std.specs.HashSet.{contains_text}
use Rattle.std.proofs.lemmas.Map.Text.{hash_set_updates_text}
use Rattle.meson_gathering.specs.Gathering.{file_of}
use Rattle.meson_gathering.specs.inside.Names.{AreNames}
use Rattle.meson_gathering.proofs.NameSets.{names_back, names_more}
use Rattle.meson_gathering.proofs.named_files.NamedFiles.push.Goals as goal

pub invariant_of-self-in-Ok : goal.invariant_of-self-in-Ok
invariant_of-self-in-Ok c =
    let files = c.self.inside.files in
    let names = c.self.inside.names in
    let bytes = c.args.bytes.items in
    let is : c.push_new.new.self ≡ files ++ file_of c.args.name.now bytes ∷ [] = c.in-Ok.ensures.ok ∙ ap (λ n. files ++ file_of n bytes ∷ []) c.in_ok-own.ensures.ok in
    let put = hash_set_updates_text (string_bytes c.in_ok-key.key) names c.insert.new.self true c.in_ok-insert.ensures.updates in
    subst (λ fs. AreNames c.insert.new.self fs) (sym is)
    (names_more names c.insert.new.self files c.self.invariant (file_of c.args.name.now bytes) (λ x. put x ∙ ap (λ n. cond (bytes_eq n x) true (contains_text names x)) c.in_ok-key.ensures.ok))

pub invariant_of-self-in-Err : goal.invariant_of-self-in-Err
invariant_of-self-in-Err c =
    let files = c.self.inside.files in
    let names = c.self.inside.names in
    let name = c.args.name.now in
    let none = rw (← c.self.view_is) at c.requires in
    let put = hash_set_updates_text (string_bytes c.in_ok-key.key) names c.insert.new.self true c.in_ok-insert.ensures.updates in
    let gone = hash_set_updates_text name c.insert.new.self c.remove.new.self false c.remove.ensures.updates in
    subst (λ fs. AreNames c.remove.new.self fs) (sym c.in-Err.ensures.kept)
    (names_back names c.insert.new.self files c.self.invariant c.remove.new.self name none (λ x. put x ∙ ap (λ n. cond (bytes_eq n x) true (contains_text names x)) c.in_ok-key.ensures.ok) gone)
