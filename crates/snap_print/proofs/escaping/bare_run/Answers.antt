use Rattle.snap_print.proofs.escaping.bare_run.Goals as goal

pub before_rest-requires : goal.before_rest-requires
before_rest-requires c = (c.after_bare-rest.ensures.front, c.after_bare-rest.ensures.whole)
