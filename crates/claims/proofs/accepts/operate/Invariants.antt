use Rattle.claims.proofs.accepts.operate.Given as goal

abbrev pub ghost-operate_some : goal.ghost-operate_some
ghost-operate_some g a = g.turns
