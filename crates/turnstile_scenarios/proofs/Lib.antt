mod JobLemmas
