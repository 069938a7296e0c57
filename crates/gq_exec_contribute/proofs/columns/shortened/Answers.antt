use Rattle.gq_exec_contribute.proofs.columns.shortened.Goals as goal
