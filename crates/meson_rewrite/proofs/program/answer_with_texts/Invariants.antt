use Rattle.meson_rewrite.proofs.program.answer_with_texts.Given as goal

-- what is known of the store when the texts are laid over it
abbrev pub ghosts-answer_over : goal.ghosts-answer_over
ghosts-answer_over g a = record {
  name = a.store.ghost_name;
  content = g.S.Store.content a.store.now;
  failures = g.S.Store.failures a.store.now;
  reads = g.S.Store.reads a.store.now;
  replaces = g.S.Store.replaces a.store.now;
}
