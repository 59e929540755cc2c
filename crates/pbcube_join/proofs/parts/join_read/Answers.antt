use Rattle.std.proofs.Common.{◌≡◌, ℕ, List, Bor, map, subst}
use Rattle.std.proofs.lemmas.Result.{IfOk-weaker}
use Rattle.pb_files.specs.Reading.{ListsFiles}
use Rattle.pb_files.specs.Tasks.{ReadsTasks}
use Rattle.pb_files.specs.Texts.{texts}
use Rattle.pbcube_join.proofs.parts.join_read.Goals as goal

pub returns-clause-joins : goal.returns-clause-joins
returns-clause-joins g c = λ before instance.
    let operands : c.deref.result.now ≡ c.args.line.now.reports.items = cc in
    let named = c.in_ok-named.named in
    let listed = subst (λ (names : List (Bor (List ℕ))). ListsFiles g.F.Files.lists (map (λ name. name.now) names) (texts named.reports) (texts named.indexes) c.args.files.now c.named_files.new.files) operands c.in_ok-named.ensures in
    let vars : c.vars-vars.result ≡ c.args.whole.now.instance.vars = cc in
    let read = subst (λ (n : ℕ). ReadsTasks g.F.Files.reads c.args.line.now.format n c.args.tasks (texts named.reports) c.in_ok-read.read c.named_files.new.files c.read_tasks.new.files) vars c.in_ok-read.ensures.read in
    IfOk-weaker c.write_tasks.result _ _ (λ end told. record {
      problem = c.args.whole.now.instance;
      digest = c.args.whole.now.digest;
      read = c.in_ok-read.read;
      from_files = record {
        after_instance = c.args.files.now;
        instance = instance;
        names = texts named.reports;
        indexes = texts named.indexes;
        after_names = c.named_files.new.files;
        listed = listed;
        tasks_read = read;
      };
      tells = told;
    }) c.write_tasks.ensures.tells
