mod NoteLemmas
