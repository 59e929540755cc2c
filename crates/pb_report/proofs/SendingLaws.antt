-- How the bytes of a report come to be written.
use Rattle.std.proofs.Common.{◌≡◌, ℕ, Bool, true, false, ◌||◌, ◌∷◌, subst, arith, refl, ◌-◌, List, [], ◌++◌, length, take, drop, Option, Some, None, Result, Ok, Err, is_err, OnOk, sym, ◌∙◌, ap, append_assoc, append-nil, take-append-drop}
use Rattle.std.proofs.lemmas.List.{take_rest}
use Rattle.std.proofs.lemmas.Bool.{false≢true}
use Rattle.std.specs.Io.KnownBytes.{Appends, append_known}
use Rattle.pb_report.specs.Device.{Device}
use Rattle.pb_report.specs.Sending.{Grows, Writes, Adds}
use Rattle.pb_report.specs.declared.writing.writer.Report.{Report}

pub appended_both : (a b c : Option (List ℕ)) (bs cs : List ℕ) → Appends a b bs → Appends b c cs → Appends a c (bs ++ cs)
appended_both None b c bs cs p q = tt
appended_both (Some x) None c bs cs p q = absurd p
appended_both (Some x) (Some y) None bs cs p q = absurd q
appended_both (Some x) (Some y) (Some z) bs cs p q = q ∙ ap (λ l. l ++ cs) p ∙ append_assoc x bs cs

-- a device that has not failed in the end had not failed before
unfailed_before : (failed failed' : Bool) → (failed ≡ true → failed' ≡ true) → failed' ≡ false → failed ≡ false
unfailed_before false failed' stays unfailed = refl
unfailed_before true failed' stays unfailed = absurd (false≢true (sym unfailed ∙ stays refl))

pub grown_both : (f g h : Bool) (a b c : Option (List ℕ)) (bs cs : List ℕ) → Grows f g a b bs → Grows g h b c cs → Grows f h a c (bs ++ cs)
grown_both f g h a b c bs cs p q = record {
  stays = λ failed. q.stays (p.stays failed);
  grown = λ unfailed. appended_both a b c bs cs (p.grown (unfailed_before g h q.stays unfailed)) (q.grown unfailed);
}

appended_none : (a : Option (List ℕ)) → Appends a a []
appended_none None = tt
appended_none (Some x) = sym (append-nil x)

-- nothing was written so far
pub grown_none : (f : Bool) (a : Option (List ℕ)) → Grows f f a a []
grown_none f a = record { stays = λ failed. failed; grown = λ unfailed. appended_none a }

-- a call that answered no fault took these bytes
pub grown_by : (f g : Bool) (a b : Option (List ℕ)) (bs : List ℕ) → g ≡ (f || false) → Appends a b bs → Grows f g a b bs
grown_by true g a b bs noted appended = record { stays = λ failed. noted; grown = λ unfailed. appended }
grown_by false g a b bs noted appended = record { stays = λ failed. absurd (false≢true failed); grown = λ unfailed. appended }

-- nothing is left of the bytes
pub grown_all : (f g : Bool) (a b : Option (List ℕ)) (all done rest : List ℕ) → all ≡ done ++ rest → length rest ≡ 0 → Grows f g a b done → Grows f g a b all
grown_all f g a b all done [] split empty grows = subst (λ l. Grows f g a b l) (sym (split ∙ append-nil done)) grows
grown_all f g a b all done (x ∷ rest) split empty grows = absurd (omega arith)

-- n more bytes of the rest were taken
pub taken_more : (all done rest : List ℕ) (n : ℕ) → all ≡ done ++ rest → all ≡ (done ++ take n rest) ++ take (length rest - n) (drop n rest)
taken_more all done rest n e =
    e ∙ ap (λ l. done ++ l) (sym (take-append-drop n rest)) ∙ sym (append_assoc done (take n rest) (drop n rest)) ∙ ap (λ l. (done ++ take n rest) ++ l) (sym (take_rest rest n))

sent_all : (a b c : Option (List ℕ)) (empty waiting bs : List ℕ) → empty ≡ [] → Appends (append_known a empty) (append_known b waiting) bs → Appends b c waiting → Appends a c bs
sent_all None b c empty waiting bs none put sent = tt
sent_all (Some x) None c empty waiting bs none put sent = absurd put
sent_all (Some x) (Some y) None empty waiting bs none put sent = absurd sent
sent_all (Some x) (Some y) (Some z) empty waiting bs none put sent =
    sent ∙ put ∙ ap (λ l. (x ++ l) ++ bs) none ∙ ap (λ l. l ++ bs) (append-nil x)

-- what was put into an empty chunk is what was written once the chunk is sent
pub all_sent : (f g h : Bool) (a b c : Option (List ℕ)) (empty waiting bs : List ℕ) → empty ≡ [] → Grows f g (append_known a empty) (append_known b waiting) bs → Grows g h b c waiting → Grows f h a c bs
all_sent f g h a b c empty waiting bs none put sent = record {
  stays = λ failed. sent.stays (put.stays failed);
  grown = λ unfailed. sent_all a b c empty waiting bs none (put.grown (unfailed_before g h sent.stays unfailed)) (sent.grown unfailed);
}

-- what was added first and what was added then
pub adds_both : {T : Type 0} (contents : T → Option (List ℕ)) (a b c : Report T) (bs cs : List ℕ) → Adds contents a b bs → Adds contents b c cs → Adds contents a c (bs ++ cs)
adds_both contents a b c bs cs p q = record {
  same_device = q.same_device ∙ p.same_device;
  grows = grown_both _ _ _ _ _ _ _ _ p.grows q.grows;
}

-- nothing was added so far
pub adds_none : {T : Type 0} (contents : T → Option (List ℕ)) (a : Report T) → Adds contents a a []
adds_none contents a = record { same_device = refl; grows = grown_none _ _ }

-- a report that ended with no fault was written whole
pub reported : {T X E : Type 0} (contents : T → Option (List ℕ)) (r : Result X E) (out : Device T) (first last : Report T) (out' : Device T) (bs : List ℕ) → first.out.now ≡ out → first.waiting ≡ []
    → Adds contents first last bs → Writes contents last.out.now out' last.waiting → out'.failed ≡ is_err r → OnOk r (Appends (contents out.held) (contents out'.held) bs)
reported contents (Ok ended) out first last out' bs same none put sent noted =
    subst (λ d. Appends (contents d.held) (contents out'.held) bs) same ((all_sent _ _ _ _ _ _ _ _ _ none put.grows sent).grown noted)
reported contents (Err fault) out first last out' bs same none put sent noted = tt
