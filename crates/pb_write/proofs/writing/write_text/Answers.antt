use Rattle.pb_write.specs.Pieces.{clauses_of}
use Rattle.pb_write.specs.Text.{text_with_clauses}
use Rattle.pb_write.proofs.Spelled.{spelled}
use Rattle.pb_write.proofs.writing.write_text.Goals as goal

pub returns-in-Ok-clause-written : goal.returns-in-Ok-clause-written
returns-in-Ok-clause-written g c = record {
  text = text_with_clauses c.args.format c.args.instance.now (clauses_of c.args.piece);
  appended = c.in-Ok.ensures.written.grown;
  spelled = spelled c.args.format c.args.instance.now (clauses_of c.args.piece) c.requires.form c.in-Ok.ensures.proper c.requires.counts c.in-Ok.ensures.variables c.requires.within;
}
