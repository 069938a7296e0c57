use Rattle.std.proofs.Common.{refl, arith}
use Rattle.gq_load_csv.proofs.CutLemmas.{cut_end, cut_found}
use Rattle.gq_load_csv.proofs.lines.cut_place.Goals as goal

pub returns-then-size-text-clause-all : goal.returns-then-size-text-clause-all
returns-then-size-text-clause-all c separator quote plain = cut_end separator quote c.args.text.now

pub returns-in-Some-clause-all : goal.returns-in-Some-clause-all
returns-in-Some-clause-all c separator quote plain =
    cut_found separator quote c.args.text.now _ c.args.size c.in-Some.place c.memchr.result refl (omega arith) c.in-Some.is c.memchr.ensures plain.line plain.plain

pub returns-in-None-clause-all : goal.returns-in-None-clause-all
returns-in-None-clause-all c separator quote plain = cut_end separator quote c.args.text.now
