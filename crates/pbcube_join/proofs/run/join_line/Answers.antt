use Rattle.std.proofs.Common.{◌≡◌, ℕ, List, Bor, Ok, Err, IfOk, map, subst}
use Rattle.std.specs.Prelude.{Result}
use Rattle.pb_files.specs.Reading.{ListsFiles}
use Rattle.pb_files.specs.Texts.{texts}
use Rattle.pbcube_join.proofs.run.join_line.Goals as goal

IfOk-more : {A E : Type 0} (P Q : A → Type 0) (r : Result A E) → ((a : A) → P a → Q a) → IfOk r P → IfOk r Q
IfOk-more P Q (Ok a) more h = more a h
IfOk-more P Q (Err e) more h = tt

pub returns-clause-tells : goal.returns-clause-tells
returns-clause-tells g c =
    IfOk-more _ _ c.join_files.result (λ joined told. (c.in_ok-whole.whole.instance, c.in_ok-pieces.pieces, told)) c.join_files.ensures.tells

pub returns-clause-joins : goal.returns-clause-joins
returns-clause-joins g c =
    let operands : c.deref.result.now ≡ c.args.line.now.reports.items = cc in
    let named = c.in_ok-named.named in
    let listed = subst (λ (names : List (Bor (List ℕ))). ListsFiles g.F.Files.lists (map (λ name. name.now) names) (texts named.reports) (texts named.indexes) c.read_instance.new.files c.named_files.new.files) operands c.in_ok-named.ensures in
    IfOk-more _ _ c.join_files.result (λ joined told. record {
      problem = c.in_ok-whole.whole.instance;
      pieces = c.in_ok-pieces.pieces;
      reports = told.0;
      from_files = record {
        digest = c.in_ok-whole.whole.digest;
        after_instance = c.read_instance.new.files;
        instance = c.in_ok-whole.ensures.read;
        names = texts named.reports;
        indexes = texts named.indexes;
        after_names = c.named_files.new.files;
        listed = listed;
        after_indexes = c.count_pieces.new.files;
        counted = c.in_ok-pieces.ensures.counted;
        reports_read = told.1;
      };
      tells = told.2;
    }) c.join_files.ensures.joins
