use Rattle.std.proofs.Common.{ap, arith}
use Rattle.pb_board.specs.Seats.{BoardView}
use Rattle.pb_board.proofs.RowLemmas.{row_words_le, row_word_less}
use Rattle.pb_board.proofs.board.Board.row_word.Goals as goal

pub overflow_mul-result : goal.overflow_mul-result
overflow_mul-result c =
    let is = ap (λ (b : BoardView). b.workers) c.self.view_is in
    let below = row_words_le c.args.row c.self.inside.workers c.self.inside.row_len (omega arith) (omega arith) in omega arith

pub overflow_add-result : goal.overflow_add-result
overflow_add-result c =
    let is = ap (λ (b : BoardView). b.workers) c.self.view_is in
    let below = row_words_le c.args.row c.self.inside.workers c.self.inside.row_len (omega arith) (omega arith) in omega arith

pub overflow_add-result-2 : goal.overflow_add-result-2
overflow_add-result-2 c =
    let is = ap (λ (b : BoardView). b.workers) c.self.view_is in
    let vars = ap (λ (b : BoardView). b.vars) c.self.view_is in
    let below = row_words_le c.args.row c.self.inside.workers c.self.inside.row_len (omega arith) (omega arith) in
    let within = c.requires.1 in omega arith

pub returns : goal.returns
returns c =
    let workers = ap (λ (b : BoardView). b.workers) c.self.view_is in
    let vars = ap (λ (b : BoardView). b.vars) c.self.view_is in
    let words = ap (λ (b : BoardView). b.id.words) c.self.view_is in
    let fits = c.requires in
    let less = row_word_less c.args.row c.args.j c.self.inside.workers c.self.inside.row_len (omega arith) (omega arith) in
    (omega arith, omega arith)
